pub mod Sides
pub mod Changes
pub mod Results
pub mod Calls
pub mod Definitions
