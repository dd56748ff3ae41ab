pub use Rattle.go_type_terms.proofs as go_type_terms_proofs
pub mod Chaining
pub mod LiteralForms
pub mod LoudForms
pub mod Meanings
pub mod Prefixed
pub mod TypeOperands
pub mod Typed
pub mod Walks
