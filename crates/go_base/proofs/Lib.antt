pub mod FilledUp
pub mod Fronts
pub mod Lists
pub mod Members
pub mod Ordered
pub mod Orders
pub mod PlainNames
pub mod Runs
