pub mod Answers
pub mod GoMod
pub mod Loads
pub mod Names
pub mod Walk
pub mod inner
