pub mod Scopes
pub mod Sharing
