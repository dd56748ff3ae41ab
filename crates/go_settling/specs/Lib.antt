pub mod Settling
pub mod inner
