pub mod Flags
pub mod Ranks
pub mod Walks
pub mod inner
