pub use Rattle.go_operations.proofs as go_operations_proofs
pub use Rattle.go_operations.proofs.go_type_terms_proofs as go_type_terms_proofs
pub mod ByType
pub mod Composing
pub mod ElementValues
pub mod FieldTables
pub mod Indexing
pub mod KeyNames
pub mod KeyedFields
pub mod Pairing
pub mod Parts
pub mod StructElements
