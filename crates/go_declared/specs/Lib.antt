pub mod AliasEnds
pub mod MethodTables
pub mod NameTables
pub mod NamesakeTables
pub mod PackageTables
pub mod ReceiverNames
pub mod inner
