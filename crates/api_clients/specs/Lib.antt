pub use Rattle.go_clients.specs as go_clients
pub mod ClientAnswers
pub mod ClientChecks
pub mod inner
