pub mod KeptFeatures
pub mod PlainLines
pub mod SharedFeatures
pub mod SharedTexts
pub mod SharedTypes
