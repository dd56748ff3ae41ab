pub mod Announced
pub mod AwaitedMethods
pub mod FileImports
pub mod OwnTypes
