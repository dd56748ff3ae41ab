pub use Rattle.go_client_units.specs.go_client_files as go_client_files
pub use Rattle.go_client_units.specs as go_client_units
pub mod WrittenClients
