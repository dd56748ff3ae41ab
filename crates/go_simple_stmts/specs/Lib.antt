pub use Rattle.go_exprs.specs as go_exprs
pub mod Follow
pub mod SimpleStatements
