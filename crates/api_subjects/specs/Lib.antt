pub mod Rules
pub mod Subjects
pub mod Told
pub mod TypeTexts
pub mod inner
