pub use Rattle.api_std_types.proofs.go_unit_worlds_proofs as go_unit_worlds_proofs
mod ClientSettings
mod UnitWorlds
