pub mod Lookups
pub mod ImportTables
pub mod AnnouncedNames
pub mod OwnDeclarations
pub mod TypeObjects
pub mod AwaitedSelectors
pub mod KeptAtFirst
