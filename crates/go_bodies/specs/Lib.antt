pub mod Bodies
pub mod Braces
pub mod Reading
pub mod Reads
