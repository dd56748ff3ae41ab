pub mod Claims
pub mod Graphs
pub mod Objects
