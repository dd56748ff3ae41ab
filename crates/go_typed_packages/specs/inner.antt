pub mod KeptTypes
pub mod NamedMembers
