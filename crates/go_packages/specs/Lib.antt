pub use Rattle.go_entries.specs as go_entries
pub mod inner
