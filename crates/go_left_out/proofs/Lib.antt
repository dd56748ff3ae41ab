pub mod ToldFlags
pub mod ToldCauses
pub mod SkippedSoFar
