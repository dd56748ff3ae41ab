pub mod Entered
pub mod SettledIn
