pub mod PackageFaults
pub mod Places
pub mod Refusals
pub mod Roots
pub mod SkippedTexts
pub mod inner
