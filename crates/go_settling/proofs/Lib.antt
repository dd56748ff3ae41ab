pub mod NextEntry
pub mod NothingHad
pub mod Passing
