pub mod PackageTypes
pub mod Worlds
