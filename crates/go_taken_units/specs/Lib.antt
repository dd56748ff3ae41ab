pub use Rattle.go_taken_packages.specs as go_taken_packages
pub mod TakenUnits
