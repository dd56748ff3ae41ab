pub use Rattle.go_expr.proofs as go_expr_proofs
pub use Rattle.go_expr.proofs.go_operations_proofs as go_operations_proofs
pub use Rattle.go_expr.proofs.go_operators_proofs as go_operators_proofs
pub mod Both
pub mod EmbeddedTypes
pub mod MapKeys
