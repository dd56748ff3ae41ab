pub mod PackageScopes
pub mod KeptScopes
