pub mod ProfileClients
pub mod Vetting
pub mod inner
