pub mod Folders
pub mod PackageUses
pub mod Reached
pub mod UndeclaredUses
pub mod UnitFacts
pub mod UnitOrders
pub mod UnitsOfModules
pub mod inner
