pub mod Files
pub mod Outlines
pub mod Units
