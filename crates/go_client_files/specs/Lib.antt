pub use Rattle.go_file_blocks.specs as go_file_blocks
pub use Rattle.go_reading.specs as go_reading
pub mod ClientFiles
pub mod inner
