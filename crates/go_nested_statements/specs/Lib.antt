pub use Rattle.go_flat_statements.specs as go_flat_statements
pub mod Heads
pub mod Ranging
