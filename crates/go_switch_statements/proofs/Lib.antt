pub use Rattle.go_walks.proofs as go_walks_proofs
pub mod Switched
pub mod Guarded
pub mod Selected
