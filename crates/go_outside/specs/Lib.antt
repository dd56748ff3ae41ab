pub mod Failing
pub mod Faults
pub mod MemoryFiles
pub mod MemorySink
pub mod Paths
pub mod Sinks
pub mod Stores
pub mod inner
