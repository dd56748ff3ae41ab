pub mod EnteredBodies
pub mod Framed
pub mod Named
pub mod Placed
pub mod Sorted
