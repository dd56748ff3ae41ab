pub use Rattle.go_type_switches.specs.go_entries as go_entries
pub use Rattle.go_nested_statements.specs.go_flat_statements as go_flat_statements
pub use Rattle.go_walks.specs as go_walks
pub mod Casing
pub mod Binding
pub mod Selecting
