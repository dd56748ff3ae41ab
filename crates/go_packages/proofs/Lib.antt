pub mod NamedObjects
pub mod NamedDefined
pub mod OwnDefined
pub mod SelectorOrder
pub mod ToldMethods
pub mod OnceNamed
pub mod Packages
pub mod PlacedNames
