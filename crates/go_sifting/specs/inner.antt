pub mod Ends
pub mod FirstJoined
