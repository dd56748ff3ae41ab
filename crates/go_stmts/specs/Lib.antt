pub use Rattle.go_stmt_descent.specs as go_stmt_descent
