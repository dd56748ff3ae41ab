pub mod Checks
pub mod EarlierUnits
pub mod NextUnits
pub mod Progresses
pub mod Rows
