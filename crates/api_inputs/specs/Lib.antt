pub mod FrozenInputs
pub mod Inputs
pub mod Reads
pub mod inner
