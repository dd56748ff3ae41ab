pub mod Components
pub mod Marking
