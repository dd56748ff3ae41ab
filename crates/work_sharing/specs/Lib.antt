pub mod Rows
pub mod Results
