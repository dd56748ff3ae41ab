-- What is found in some runs is found where all others are typed.
use Rattle.std.proofs.Common.{inl, inr, ◌⊎◌, ℕ, List, Option, None, Some}
use Rattle.go_rules.specs.Environments.{Env}
use Rattle.go_local_scopes.specs.go_statement_rules.Bodies.{IsTypedRun}
use Rattle.go_local_scopes.specs.go_statement_rules.Functions.{Run}
use Rattle.go_local_scopes.proofs.go_statement_rules_proofs.OnePlace.{typed_no_place}
use Rattle.go_syntax.specs.declared.statement.LiteralBlock.{LiteralBlock}
use Rattle.go_untyped_places.specs.Surveys.{Surveyed}

module _ (E : Env) (blocks : List LiteralBlock) (P Q : Run → Type 0) where
  pub survey_but : (a : Option ℕ) → ((v : Run) → P v → Q v) → ((v : Run) → Q v → IsTypedRun E blocks v ⊎ P v) → Surveyed E blocks P a → Surveyed E blocks Q a
  survey_but None to from s = λ v q. elim (from v q) [ inl y ↦ y | inr p ↦ s v p ]
  survey_but (Some n) to from s = (s.0, to s.0 s.1, s.2, λ w m q b. elim (from w q) [ inl y ↦ absurd (typed_no_place E blocks w m y b) | inr p ↦ s.3 w m p b ])
