pub mod Apart
pub mod MethodFacts
pub mod ReservedNames
pub mod ToldAsks
pub mod UsableValues
