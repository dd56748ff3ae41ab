pub mod FlaggedNumbers
pub mod JoinedFlags
pub mod LeastOthers
pub mod Searching
