pub use Rattle.api_kept_relations.proofs as api_kept_relations_proofs
pub use Rattle.go_unit_worlds.proofs.go_std_worlds_proofs as go_std_worlds_proofs
pub use Rattle.go_unit_worlds.proofs as go_unit_worlds_proofs
pub mod MadeDeclarations
pub mod MadeOperands
pub mod MadePackages
pub mod MadeRules
pub mod MadeTypes
pub mod StandingNames
pub mod StdWorlds
