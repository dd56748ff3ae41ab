pub use Rattle.go_base.specs as go_base
pub mod Answers
pub mod Candidates
pub mod Endings
pub mod Names
pub mod Owners
pub mod Search
pub mod Ways
