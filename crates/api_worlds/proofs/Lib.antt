pub use Rattle.go_work.proofs as go_work_proofs
pub mod KeptPackages
pub mod ListedPackages
pub mod OneWorld
pub mod PlatformAnswers
