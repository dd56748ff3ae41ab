pub mod DecidedRules
pub mod InterfaceLosses
pub mod MethodSetLosses
pub mod PackageBreaks
pub mod PairLosses
pub mod SelectableLosses
pub mod Telling
