pub mod PlatformSteps
pub mod KeptLines
