pub mod LostDeclarations
pub mod Ranks
pub mod Settled
pub mod Apart
