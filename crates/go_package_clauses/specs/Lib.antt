pub mod OutlineNames
