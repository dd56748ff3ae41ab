pub mod Graphs
pub mod JoinedFlags
pub mod Orders
pub mod inner
