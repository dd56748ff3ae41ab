pub use Rattle.go_exposed.specs as go_exposed
pub mod InOrder
pub mod TakenPaths
pub mod ToldPackages
