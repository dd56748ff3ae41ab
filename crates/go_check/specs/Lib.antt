pub use Rattle.go_package_entries.specs as go_package_entries
pub mod Answers
pub mod inner
