pub mod Decisions
