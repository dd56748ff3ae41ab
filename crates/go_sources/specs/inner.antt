pub mod KnownNames
pub mod DeclarationSites
pub mod MissingImports
