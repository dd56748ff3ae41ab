pub use Rattle.go_reading.proofs as go_reading_proofs
pub mod ParsedFiles
pub mod ClientReadings
pub mod MadeFiles
pub mod RootFiles
pub mod Accepted
