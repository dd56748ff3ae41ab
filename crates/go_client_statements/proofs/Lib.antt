pub mod ApartImages
pub mod Bodies
pub mod Listed
pub mod LocalDeclarations
pub mod ScopeImages
pub mod Statements
pub mod Values
pub mod Within
