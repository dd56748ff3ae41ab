pub mod GivenOptions
pub mod Names
pub mod NumberWords
pub mod OneRequest
pub mod ReadSettings
pub mod Searches
pub mod VersionWords
