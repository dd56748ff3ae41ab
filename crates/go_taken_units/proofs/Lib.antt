pub use Rattle.go_taken_packages.proofs as go_taken_packages_proofs
pub mod AlikeFiles
pub mod AlikeLists
pub mod ListedImports
pub mod TakenSoFar
