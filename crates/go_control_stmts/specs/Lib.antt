pub use Rattle.go_stmt_lists.specs as go_stmt_lists
