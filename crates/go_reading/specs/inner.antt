pub mod Gathering
pub mod Groups
pub mod Heads
pub mod Listing
pub mod SourceCauses
