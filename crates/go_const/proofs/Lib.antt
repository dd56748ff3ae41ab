pub mod Bits
pub mod Bounds
pub mod KeptNumbers
pub mod Quotients
pub mod ResultKinds
pub mod Shifts
