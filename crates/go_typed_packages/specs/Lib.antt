pub mod PackageShapes
pub mod inner
