pub use Rattle.go_operators.proofs as go_operators_proofs
pub mod ArrayLengths
pub mod Asserting
pub mod Bounds
pub mod IndexValues
pub mod Indexing
pub mod Posts
pub mod Selecting
pub mod Slicing
pub mod StringLengths
