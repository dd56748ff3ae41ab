pub use Rattle.go_assignments.specs.go_entries as go_entries
pub mod Clauses
pub mod inner
