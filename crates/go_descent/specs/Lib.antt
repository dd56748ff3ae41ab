pub use Rattle.go_cursor.specs as go_cursor
pub mod Follow
pub mod Levels
pub mod Parts
pub mod Rules
