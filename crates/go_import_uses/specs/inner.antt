pub mod FirstNeeded
pub mod NamedImports
pub mod SelectedPlaces
