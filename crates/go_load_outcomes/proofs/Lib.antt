pub mod ToldPaths
pub mod FolderWalks
pub mod WalkedTrees
pub mod LoadOutcomes
