pub mod MethodsOf
pub mod Names
pub mod Told
pub mod Values
