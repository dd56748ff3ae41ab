pub mod FileBodies
pub mod FileOutcomes
