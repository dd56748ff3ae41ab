pub mod Endings
pub mod Following
pub mod Keeping
pub mod OwnTypes
pub mod Preserving
pub mod Reached
