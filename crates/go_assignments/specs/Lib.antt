pub use Rattle.go_entries.specs as go_entries
pub mod Simple
pub mod Definitions
pub mod inner
