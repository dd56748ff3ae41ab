pub mod Statuses
pub mod inner
pub mod runs
