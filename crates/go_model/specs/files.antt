pub mod BuildConstraints
pub mod BuildTags
pub mod BuildValues
pub mod Headers
pub mod Platforms
pub mod Trees
