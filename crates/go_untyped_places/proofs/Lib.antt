pub mod PlacesInside
pub mod Surveying
pub mod PartsInside
