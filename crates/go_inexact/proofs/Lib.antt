pub mod Adding
pub mod Answered
pub mod Arguments
pub mod BasicNames
pub mod Chained
pub mod Following
pub mod Told
pub mod ValuesDecided
