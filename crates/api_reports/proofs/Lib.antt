pub mod TextLines
pub mod PlatformLines
