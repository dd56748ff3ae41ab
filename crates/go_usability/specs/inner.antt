pub mod Alternatives
pub mod Levels
pub mod Matches
pub mod Methods
pub mod Parts
pub mod Stands
