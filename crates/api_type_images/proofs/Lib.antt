pub mod Apart
pub mod OwnedNames
pub mod Paired
pub mod Rebuilt
pub mod SameImages
