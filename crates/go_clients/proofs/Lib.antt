pub mod OtherIota
pub mod JudgedBodies
pub mod FirstPlaces
pub mod LookedThrough
pub mod FoundBodies
pub mod VettedClients
