pub use Rattle.go_entries.specs as go_entries
pub mod Bases
pub mod inner
