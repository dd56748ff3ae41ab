pub use Rattle.go_std_worlds.proofs as go_std_worlds_proofs
pub use Rattle.go_std_worlds.proofs.go_taken_packages_proofs as go_taken_packages_proofs
pub use Rattle.go_std_worlds.proofs.go_typed_packages_proofs as go_typed_packages_proofs
pub mod JoinedInTurn
pub mod SharedWorlds
