pub mod PackageStates
pub mod Settings
pub mod inner
