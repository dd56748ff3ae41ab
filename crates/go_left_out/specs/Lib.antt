pub mod Told
pub mod Kept
pub mod WrongFlags
pub mod inner
