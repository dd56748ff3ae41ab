pub use Rattle.go_references.specs.go_syntax as go_syntax
pub mod Answers
pub mod Gives
pub mod ImportPaths
pub mod InternalUses
pub mod Orders
pub mod Outlines
pub mod PackageFiles
pub mod UndeclaredUses
pub mod UsedImports
pub mod inner
