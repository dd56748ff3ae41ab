pub use Rattle.go_model.specs as go_model
pub mod Asks
pub mod Environments
pub mod Expressions
pub mod Growth
pub mod KeptConstants
pub mod Meanings
pub mod Names
pub mod Nodes
pub mod Operands
pub mod Regions
pub mod Scopes
pub mod Universe
pub mod Usability
pub mod inner
