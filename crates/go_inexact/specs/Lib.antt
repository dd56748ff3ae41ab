pub mod Chains
pub mod Maybe
pub mod Values
pub mod inner
