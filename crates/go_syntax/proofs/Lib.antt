pub use Rattle.go_base.proofs as go_base_proofs
