pub use Rattle.go_type_terms.specs as go_type_terms
pub mod Chains
pub mod Prefixes
pub mod inner
