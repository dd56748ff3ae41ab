pub mod Imported
pub mod Predeclared
