pub mod Heights
pub mod LookAheads
