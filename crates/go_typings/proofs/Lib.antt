pub use Rattle.go_rules.proofs.go_model_proofs as go_model_proofs
pub use Rattle.go_rules.proofs as go_rules_proofs
pub mod Cells
pub mod Agree
pub mod GrowEnvironments
pub mod GrowRules
pub mod OneEntry
pub mod OneTyping
pub mod KeptEntries
pub mod ConstantKinds
pub mod ReachedRegion
pub mod HeldImports
pub mod LocalRules
pub mod SameImports
pub mod SameReferences
pub mod SameAsks
pub mod WholeRegion
pub mod ReachedConstants
pub mod SameTypings
pub mod FoundImports
pub mod SoundDeclarations
pub mod OneRefusal
pub mod OnePackage
pub mod OneWorld
pub mod WorldOrRefusal
pub mod JoinedEntries
