pub mod constants
pub mod files
pub mod types
pub mod worlds
