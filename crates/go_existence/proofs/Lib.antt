pub mod DoubleNegation
pub mod FiniteSets
pub mod LeastNumbers
pub mod OrderedTexts
