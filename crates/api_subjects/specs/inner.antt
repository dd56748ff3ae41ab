pub mod Appended
pub mod Quoting
