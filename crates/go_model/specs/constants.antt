pub mod Bits
pub mod Classes
pub mod Constants
pub mod Operators
