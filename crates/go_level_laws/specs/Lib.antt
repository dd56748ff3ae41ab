pub use Rattle.go_unit_worlds.specs.go_std_worlds as go_std_worlds
pub mod Levels
pub mod ByLevels
