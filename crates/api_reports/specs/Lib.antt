pub mod Clients
pub mod Reports
