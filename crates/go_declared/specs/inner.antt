pub mod Adding
pub mod AddingMethods
pub mod FormsAt
pub mod NextAliases
pub mod Heads
pub mod EntryOrder
pub mod LastBases
