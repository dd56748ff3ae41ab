pub mod Barring
pub mod KnownKeys
pub mod Missing
pub mod Redeclaring
pub mod Sites
pub mod Visiting
