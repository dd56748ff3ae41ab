pub mod Files
pub mod Levels
pub mod OrderCauses
pub mod Sorting
pub mod Uses
