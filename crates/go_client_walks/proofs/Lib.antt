pub mod ReachedFolders
pub mod WalkedFiles
