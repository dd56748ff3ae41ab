pub mod Guards
pub mod Levels
pub mod Tags
