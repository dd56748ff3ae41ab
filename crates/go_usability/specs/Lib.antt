pub use Rattle.go_types.specs.go_selectors as go_selectors
pub mod Answers
pub mod inner
