pub mod Counting
pub mod FileBytes
pub mod PathFronts
pub mod Readings
pub mod SkippedNames
