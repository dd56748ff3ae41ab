pub mod Constants
pub mod Values
pub mod Variables
pub mod Types
pub mod Functions
