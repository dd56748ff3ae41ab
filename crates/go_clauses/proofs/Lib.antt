pub use Rattle.go_assignments.proofs as go_assignments_proofs
pub mod Guarding
pub mod Ranging
pub mod Tagging
