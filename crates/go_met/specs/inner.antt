pub mod MetAsks
pub mod SharedNames
pub mod ToldBases
