pub use Rattle.go_check.specs as go_check
pub mod Answers
pub mod KeptUnits
pub mod Paths
pub mod TypedUnits
pub mod inner
