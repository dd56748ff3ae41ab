pub use Rattle.go_flat_statements.proofs as go_flat_statements_proofs
pub mod Behind
pub mod Headed
pub mod Branched
pub mod Looped
pub mod Ranged
