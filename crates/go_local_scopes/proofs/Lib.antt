pub use Rattle.go_statement_rules.proofs as go_statement_rules_proofs
pub mod Standing
pub mod Declared
