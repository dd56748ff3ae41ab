pub mod EntryImages
pub mod Images
pub mod Leaves
pub mod Levels
pub mod NewNames
pub mod Parts
pub mod SpotImages
