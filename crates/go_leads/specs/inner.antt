pub mod Bares
pub mod Chains
pub mod FieldKeys
pub mod Some
