pub use Rattle.go_syntax.specs.go_base as go_base
pub mod LookAheads
pub mod Names
pub mod Reading
pub mod Reads
pub mod Skipping
