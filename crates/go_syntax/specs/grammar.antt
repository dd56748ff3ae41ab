pub mod Brackets
pub mod Declarations
pub mod Grammar
pub mod ParsedBodies
pub mod SourceFiles
pub mod Statements
pub mod Symbols
pub mod Terminals
