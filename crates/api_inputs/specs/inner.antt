pub mod Answers
pub mod FrozenSteps
