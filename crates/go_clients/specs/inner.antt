pub mod Scopes
pub mod Told
