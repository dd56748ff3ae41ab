pub mod Told
pub mod Inners
pub mod Below
pub mod Entering
pub mod Literals
pub mod Standing
