pub use Rattle.go_operators.specs.go_usability as go_usability
pub mod Assertions
pub mod Indexes
pub mod Selections
pub mod SliceExpressions
pub mod inner
