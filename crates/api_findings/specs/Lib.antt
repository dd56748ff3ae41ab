pub use Rattle.api_worlds.specs as api_worlds
pub mod Checks
pub mod Findings
pub mod inner
