pub mod NamedSelectors
pub mod FeatureSets
pub mod LineLists
pub mod SignedLines
pub mod FrozenFiles
