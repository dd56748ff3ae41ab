pub use Rattle.go_exposed.proofs as go_exposed_proofs
pub use Rattle.go_typed_packages.proofs as go_typed_packages_proofs
pub mod KeptPaths
pub mod OverAll
pub mod SameReach
pub mod SameSkipped
pub mod SharedPackages
pub mod SoFar
pub mod TakenLists
pub mod TakenOver
pub mod TakenWorlds
pub mod ToldPackages
pub mod TypedNames
pub mod WorldsInOrder
