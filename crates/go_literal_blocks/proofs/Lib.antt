pub mod RisingBlocks
pub mod Gathering
