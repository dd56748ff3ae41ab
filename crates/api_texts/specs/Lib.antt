pub mod FaultLines
pub mod FixedLines
