pub mod LocalScopes
