pub mod AnyFlags
pub mod LeastOthers
pub mod Numbers
pub mod Reached
pub mod inner
