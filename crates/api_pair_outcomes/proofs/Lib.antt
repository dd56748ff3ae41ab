pub mod TypesWithin
pub mod TypesOnPaths
pub mod WorldTypes
pub mod OwnedPairs
pub mod Owners
