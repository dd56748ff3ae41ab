pub mod Sifting
pub mod Joining
pub mod Ending
pub mod NoneLost
