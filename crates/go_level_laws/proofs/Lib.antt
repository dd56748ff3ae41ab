pub use Rattle.go_unit_worlds.proofs.go_std_worlds_proofs as go_std_worlds_proofs
pub use Rattle.go_unit_worlds.proofs.go_typed_packages_proofs as go_typed_packages_proofs
pub mod Places
pub mod KnownWorlds
pub mod Standing
pub mod LowerWorlds
pub mod Turns
pub mod Orders
pub mod NextOutcomes
pub mod UnitLevels
pub mod AddedOrders
pub mod SomeLevels
