pub mod FilesInOrder
pub mod ListedDeclarations
pub mod MovedScopes
pub mod SameSettings
pub mod LeftEntries
pub mod NothingLeftOut
pub mod WrongOnes
