mod Carried
mod Keeping
mod Labels
mod Names
pub mod Objects
mod PairFinds
mod PairLabels
pub mod Pairs
pub mod Preserving
mod StdEntries
mod StdShared
