pub mod Surveys
pub mod LiteralRuns
pub mod Parts
