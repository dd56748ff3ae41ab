pub mod ListedOnce
pub mod Listing
