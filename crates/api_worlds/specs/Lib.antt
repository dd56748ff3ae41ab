pub use Rattle.go_work.specs as go_work
pub mod PlatformWorlds
pub mod LeftOut
pub mod Refused
pub mod inner
