pub use Rattle.go_literals.specs.go_type_terms as go_type_terms
pub use Rattle.go_calls.specs.go_usability as go_usability
pub mod Arguments
pub mod Chains
pub mod Imports
pub mod Posts
