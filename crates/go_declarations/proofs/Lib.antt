pub use Rattle.go_typings.proofs as go_typings_proofs
pub mod Repeated
