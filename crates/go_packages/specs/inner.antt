pub mod FoundNames
pub mod NamedObjects
pub mod HadMethods
pub mod DefinedTypes
