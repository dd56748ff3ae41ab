pub mod UnitSources
pub mod inner
