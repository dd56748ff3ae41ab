pub mod GivenObjects
pub mod ShownMethods
pub mod TakenEntries
