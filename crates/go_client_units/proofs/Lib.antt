pub mod MoreReadings
pub mod JoinedClients
