pub mod OwnedNames
