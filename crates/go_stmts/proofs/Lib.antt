pub use Rattle.go_stmt_descent.proofs as go_stmt_descent_proofs
pub mod Heights
