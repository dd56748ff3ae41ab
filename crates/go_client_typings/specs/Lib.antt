pub mod Bodies
pub mod Clients
