pub use Rattle.go_expr.specs as go_expr
pub mod Signatures
pub mod inner
