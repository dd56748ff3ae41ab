pub mod FolderPlaces
pub mod Reaching
pub mod Refusals
pub mod UnitMaking
pub mod UnitOrder
