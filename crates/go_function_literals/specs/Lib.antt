pub mod DeclarationPlaces
pub mod Places
pub mod Sites
pub mod StatementPlaces
