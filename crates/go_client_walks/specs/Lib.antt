pub mod ClientWalks
pub mod inner
