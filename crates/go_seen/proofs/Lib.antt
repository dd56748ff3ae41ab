pub mod OfferedFlags
pub mod SeenFlags
