pub mod Losses
pub mod BreakSets
pub mod ToldBreaks
pub mod Kept
pub mod HeldPairs
pub mod VerdictOutcomes
