pub use Rattle.go_walks.specs as go_walks
pub mod Flat
pub mod Judging
pub mod Declaring
