pub mod Listings
pub mod Shapes
