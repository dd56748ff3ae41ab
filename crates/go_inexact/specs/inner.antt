pub mod Added
pub mod Constants
pub mod NoneLost
