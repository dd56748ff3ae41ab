pub mod Ownerships
pub mod inner
