pub use Rattle.go_elements.specs as go_elements
pub use Rattle.go_selectors.specs as go_selectors
pub use Rattle.go_elements.specs.go_usability as go_usability
pub mod Builtins
pub mod Calls
pub mod Functions
pub mod inner
