pub mod Answers
pub mod Lengths
pub mod Loudness
pub mod Members
pub mod Results
pub mod inner
