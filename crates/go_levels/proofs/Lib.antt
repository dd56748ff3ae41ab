pub use Rattle.go_level_laws.proofs as go_level_laws_proofs
pub use Rattle.go_level_laws.proofs.go_std_worlds_proofs as go_std_worlds_proofs
pub use Rattle.go_level_laws.proofs.go_typed_packages_proofs as go_typed_packages_proofs
pub mod LevelCounts
pub mod LevelLists
pub mod LevelSteps
