pub mod Counts
pub mod Files
pub mod Readings
pub mod Skipped
