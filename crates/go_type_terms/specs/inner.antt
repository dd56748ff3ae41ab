pub mod Gathered
pub mod Parameters
