pub mod Implementing
pub mod Losses
pub mod Partners
pub mod Sealed
