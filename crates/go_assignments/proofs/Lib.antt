pub use Rattle.go_asks.proofs as go_asks_proofs
pub use Rattle.go_entries.proofs as go_entries_proofs
pub mod Pairs
pub mod Decided
pub mod SideForms
pub mod SideValues
pub mod Results
pub mod Changes
pub mod Chains
pub mod Calls
pub mod Offering
pub mod Accepting
pub mod Definitions
