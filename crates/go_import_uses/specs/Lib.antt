pub use Rattle.go_beyond.specs as go_beyond
pub use Rattle.go_sources.specs as go_sources
pub mod Selecting
pub mod inner
