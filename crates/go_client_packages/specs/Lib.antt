pub mod ClientEntries
pub mod ClientSettings
