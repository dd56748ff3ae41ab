pub use Rattle.go_nodes.specs as go_nodes
pub mod Blocks
pub mod Literals
