pub mod AllBreaks
pub mod Implementers
pub mod Indexing
pub mod NoBreak
pub mod SharedNames
