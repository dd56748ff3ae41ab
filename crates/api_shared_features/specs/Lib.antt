pub mod SharedPackages
pub mod UnitWorlds
pub mod inner
