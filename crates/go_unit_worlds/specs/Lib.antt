pub use Rattle.go_std_worlds.specs as go_std_worlds
pub mod SharedSources
