pub use Rattle.go_selectors.specs as go_selectors
pub mod Answers
pub mod Parts
pub mod Regions
