pub use Rattle.go_elements.proofs as go_elements_proofs
pub use Rattle.go_elements.proofs.go_operators_proofs as go_operators_proofs
pub use Rattle.go_selectors.proofs as go_selectors_proofs
pub mod Appending
pub mod Building
pub mod Calling
pub mod Each
pub mod Callees
pub mod LevelParts
pub mod Making
pub mod Measuring
pub mod Rules
