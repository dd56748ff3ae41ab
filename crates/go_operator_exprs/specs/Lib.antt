pub mod Chains
pub mod Primary
