pub mod Outermost
pub mod OwnedPairs
pub mod Publics
pub mod Rules
pub mod SharedStd
pub mod inner
