pub mod ClientAnswers
pub mod InputOutcomes
pub mod WorldsOn
pub mod FindingOutcomes
pub mod NextVersions
pub mod RunOutcomes
