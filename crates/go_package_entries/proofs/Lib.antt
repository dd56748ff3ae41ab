pub mod Attempts
pub mod EachMethod
pub mod GivenObjects
pub mod KeptEntries
pub mod ShownRows
pub mod TakenForms
