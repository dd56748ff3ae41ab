pub mod HeaderCauses
pub mod inner
