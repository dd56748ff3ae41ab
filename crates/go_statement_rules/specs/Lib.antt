pub use Rattle.go_typings.specs as go_typings
pub mod Scopes
pub mod Assignments
pub mod Clauses
pub mod Functions
pub mod Statements
pub mod Bodies
pub mod Contexts
pub mod Places
