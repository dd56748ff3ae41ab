pub use Rattle.go_selectors.proofs as go_selectors_proofs
pub mod Agree
pub mod Alternatives
pub mod Called
pub mod Interfaces
pub mod Levels
pub mod MethodLists
pub mod Profile
pub mod Walks
