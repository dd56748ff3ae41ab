pub mod DecidedFlags
pub mod NumbersInParts
