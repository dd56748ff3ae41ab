pub use Rattle.go_statement_rules.specs as go_statement_rules
pub mod States
pub mod Slots
