pub use Rattle.go_typings.specs as go_typings
pub mod Forms
pub mod Listings
pub mod inner
