pub mod ChosenFiles
pub mod FilesByName
pub mod FolderReadings
pub mod Outlines
pub mod TreeFolders
pub mod TreeUnits
pub mod inner
