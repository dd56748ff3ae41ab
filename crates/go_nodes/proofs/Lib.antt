pub mod DistinctNames
pub mod EachItems
pub mod MeetsParts
