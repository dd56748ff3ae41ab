pub mod Arrays
pub mod Elements
pub mod Indices
pub mod Selected
pub mod Sliced
pub mod Strings
