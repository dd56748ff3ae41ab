pub mod Chains
pub mod ClientSteps
pub mod Outcomes
