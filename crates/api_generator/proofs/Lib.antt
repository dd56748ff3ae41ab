pub mod Clear
pub mod FileNames
pub mod MadeLists
pub mod Pieces
pub mod ToldContents
