pub mod Addresses
pub mod Comparisons
pub mod Constants
pub mod Conversions
pub mod Values
