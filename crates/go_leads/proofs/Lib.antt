pub mod GrownKeys
pub mod GrownMethods
pub mod KeyLists
pub mod MethodChains
pub mod TreeKeys
pub mod Walks
