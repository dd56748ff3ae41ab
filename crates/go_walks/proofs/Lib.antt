pub mod Told
pub mod Entered
pub mod Gathered
pub mod InnerRuns
