pub mod Fronts
pub mod SharedNames
pub mod MethodRows
pub mod ToldBases
pub mod BasesOfAll
pub mod MetFlags
