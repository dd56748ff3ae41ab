pub mod Advice
pub mod inner
