pub use Rattle.go_client_files.specs as go_client_files
pub use Rattle.go_client_files.specs.go_file_blocks as go_file_blocks
pub mod ClientUnits
pub mod inner
