pub use Rattle.go_base.specs as go_base
pub mod Literals
pub mod grammar
pub mod lexical
