pub mod Clients
pub mod Effects
pub mod Outcomes
pub mod Runs
