pub mod Breaks
pub mod inner
