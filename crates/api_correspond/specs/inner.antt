pub mod BySel
pub mod Leading
pub mod Members
pub mod Names
pub mod Parts
pub mod Spreading
pub mod Tables
