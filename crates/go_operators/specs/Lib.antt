pub use Rattle.go_usability.specs.go_selectors as go_selectors
pub use Rattle.go_usability.specs as go_usability
pub mod Prefixes
pub mod inner
