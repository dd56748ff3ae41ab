pub mod Chains
pub mod Found
pub mod NextLines
pub mod Outcomes
pub mod Sides
