pub use Rattle.go_switch_statements.specs.go_entries as go_entries
pub use Rattle.go_switch_statements.specs.go_walks as go_walks
pub mod Kinds
pub mod Answers
pub mod Bodies
