pub mod ClientScopes
pub mod ClientWorlds
pub mod StdTypes
