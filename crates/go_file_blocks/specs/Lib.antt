pub mod FileBlocks
pub mod FileReading
