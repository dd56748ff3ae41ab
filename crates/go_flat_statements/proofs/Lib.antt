pub use Rattle.go_walks.proofs as go_walks_proofs
pub mod MetTrees
pub mod FlatKinds
pub mod Defining
pub mod Declaring
pub mod Groups
