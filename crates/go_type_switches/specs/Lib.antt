pub use Rattle.go_clauses.specs as go_clauses
pub use Rattle.go_clauses.specs.go_entries as go_entries
pub mod Switches
pub mod inner
