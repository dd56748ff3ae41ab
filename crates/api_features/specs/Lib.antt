pub mod ConstantTexts
pub mod Features
pub mod TypeTexts
pub mod inner
