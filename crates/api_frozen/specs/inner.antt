pub mod Readings
pub mod SignedLines
