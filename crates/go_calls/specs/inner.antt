pub mod Appended
pub mod Arguments
pub mod Conversions
pub mod Lengths
pub mod Made
