pub use Rattle.go_syntax.proofs.go_base_proofs as go_base_proofs
