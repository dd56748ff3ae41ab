pub mod AddedLines
pub mod Joins
pub mod MergedLines
pub mod Shares
pub mod Splits
