pub mod Interfaces
pub mod MethodSets
pub mod Objects
pub mod Pairs
pub mod Selecting
pub mod Telling
