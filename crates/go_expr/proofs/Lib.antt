pub use Rattle.go_literals.proofs.go_operations_proofs as go_operations_proofs
pub use Rattle.go_calls.proofs.go_operators_proofs as go_operators_proofs
pub mod Arguing
pub mod Bounding
pub mod ByForm
pub mod CallKinds
pub mod ChainSteps
pub mod Handing
pub mod ImportedNames
pub mod LoudPosts
pub mod Parts
pub mod PrimaryExprs
pub mod Running
pub mod Slicing
