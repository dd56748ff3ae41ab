pub use Rattle.go_operations.specs as go_operations
pub use Rattle.go_operations.specs.go_type_terms as go_type_terms
pub mod Elements
pub mod Keys
pub mod Structs
pub mod inner
