pub use Rattle.go_taken_packages.proofs as go_taken_packages_proofs
pub use Rattle.go_taken_packages.proofs.go_typed_packages_proofs as go_typed_packages_proofs
pub mod GivenTwice
pub mod OwnPaths
pub mod SameFiles
pub mod SameFolders
pub mod SameStdWorlds
pub mod SameUnits
pub mod TwoModules
