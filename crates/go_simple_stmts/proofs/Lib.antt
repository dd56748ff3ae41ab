pub mod LookAheads
pub mod CompleteSimple
pub mod SoundSimple
