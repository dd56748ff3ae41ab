pub use Rattle.go_beyond.proofs as go_beyond_proofs
pub mod NamedImports
pub mod OneOf
pub mod Selected
pub mod Declarations
pub mod SeenImports
pub mod NeededImports
pub mod SelectedPlaces
