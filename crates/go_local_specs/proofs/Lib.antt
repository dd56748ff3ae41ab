pub mod LocalEntities
pub mod ListedForms
