pub mod Alike
pub mod Items
pub mod PartNames
mod Predeclared
pub mod Regions
pub mod SameTypes
pub mod Scopes
mod Sharing
