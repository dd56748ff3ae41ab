pub mod AlikePlatforms
pub mod inner
