pub mod Asked
pub mod Expressions
pub mod Fields
pub mod MetParts
pub mod Results
pub mod Selected
