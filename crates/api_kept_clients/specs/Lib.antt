pub use Rattle.api_std_types.specs.go_unit_worlds as go_unit_worlds
pub mod ServedClients
pub mod ServedUnits
