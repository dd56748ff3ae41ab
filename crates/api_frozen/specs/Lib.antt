pub mod Comparison
pub mod FrozenFiles
pub mod LineShapes
pub mod inner
