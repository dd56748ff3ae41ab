pub use Rattle.go_types.proofs.go_selectors_proofs as go_selectors_proofs
pub mod Assigning
pub mod Converting
pub mod Entering
pub mod Entries
pub mod Finds
pub mod Levels
pub mod Pairs
pub mod Untagged
pub mod Using
pub mod Walked
pub mod Whole
