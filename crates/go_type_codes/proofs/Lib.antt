pub mod PrefixFree
pub mod Putting
