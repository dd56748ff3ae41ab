pub mod Entries
pub mod HadEntries
pub mod inner
