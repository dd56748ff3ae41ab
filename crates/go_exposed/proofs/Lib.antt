pub use Rattle.go_soundness.proofs as go_soundness_proofs
pub mod OneKeptSet
pub mod OneOffer
pub mod OneCause
pub mod WholePackages
pub mod SeenKept
pub mod SoundTogether
pub mod KeptFromSieve
pub mod OneWorld
pub mod WorldOrRefusal
pub mod MaybeConstants
pub mod InexactMoves
pub mod SameImports
pub mod BeyondSieve
pub mod KeptNames
pub mod KeptTypes
pub mod KeptObjects
pub mod OneSkipped
