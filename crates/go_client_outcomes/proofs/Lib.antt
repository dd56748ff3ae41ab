pub mod ClientUnits
pub mod FolderReads
pub mod ParsedClients
pub mod ReadClients
pub mod TreeClients
pub mod VettedClients
