pub mod Answers
pub mod Changing
pub mod Comparing
pub mod Computing
pub mod Converting
pub mod LevelForms
pub mod Shifting
pub mod TypedOperands
