pub mod Changes
pub mod EachTold
pub mod OneSubject
pub mod Quotes
pub mod TypeParts
