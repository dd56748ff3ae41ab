pub mod Lines
pub mod Merging
pub mod OrderedTexts
pub mod inner
