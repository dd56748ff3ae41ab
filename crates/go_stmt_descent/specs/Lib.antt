pub use Rattle.go_simple_stmts.specs.go_exprs as go_exprs
pub use Rattle.go_simple_stmts.specs as go_simple_stmts
pub mod Communications
pub mod Headers
pub mod Statements
