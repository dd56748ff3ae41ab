pub mod KeptFinds
pub mod KeptLevels
pub mod inner
