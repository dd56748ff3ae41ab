pub use Rattle.go_level_laws.specs as go_level_laws
pub use Rattle.go_level_laws.specs.go_std_worlds as go_std_worlds
pub mod LevelNumbers
pub mod UnitLevels
