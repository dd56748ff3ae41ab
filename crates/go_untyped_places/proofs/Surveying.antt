-- What is found in some runs and in others is found in all of them.
use Rattle.std.proofs.Common.{inl, inr, ◌≡◌, ◌⊎◌, ◌≤◌, ℕ, min, List, [], ◌∷◌, Option, None, Some, refl, sym, subst, arith}
use Rattle.std.proofs.lemmas.Bool.{cases_lt}
use Rattle.go_rules.specs.Environments.{Env}
use Rattle.go_statement_rules.specs.Bodies.{IsTypedRun}
use Rattle.go_statement_rules.specs.Contexts.{Inside}
use Rattle.go_statement_rules.specs.Functions.{Enclosing, Run, run}
use Rattle.go_statement_rules.specs.Places.{IsUntypedPlace}
use Rattle.go_statement_rules.specs.Scopes.{Scopes}
use Rattle.go_statement_rules.specs.Statements.{Leaves, kind_of}
use Rattle.go_statement_rules.proofs.OnePlace.{one_place, typed_no_place}
use Rattle.go_syntax.specs.declared.statement.LiteralBlock.{LiteralBlock}
use Rattle.go_syntax.specs.declared.statement.Stmt.{Stmt, out-Stmt}
use Rattle.go_untyped_places.specs.Surveys.{Surveyed, lesser, place_or}
use Rattle.go_untyped_places.proofs.PlacesInside.{inside_place, itself_place}

module _ (E : Env) (blocks : List LiteralBlock) where
  -- ---- one run

  pub one_typed : (w : Run) → IsTypedRun E blocks w → Surveyed E blocks (λ v. v ≡ w) None
  one_typed w y = λ v e. subst (IsTypedRun E blocks) (sym e) y

  pub one_untyped : (w : Run) (p : ℕ) → IsUntypedPlace E blocks w p → Surveyed E blocks (λ v. v ≡ w) (Some p)
  one_untyped w p a = (w, refl, a, λ v q e b. let same = one_place E blocks w p q a (subst (λ (z : Run). IsUntypedPlace E blocks z q) e b) in omega (arith, same))

  -- ---- some runs and others

  module _ (P Q : Run → Type 0) where
    pub survey_as : (a : Option ℕ) → ((v : Run) → P v → Q v) → ((v : Run) → Q v → P v) → Surveyed E blocks P a → Surveyed E blocks Q a
    survey_as None to from s = λ v k. s v (from v k)
    survey_as (Some p) to from s = (s.0, to s.0 s.1, s.2, λ w q k b. s.3 w q (from w k) b)

    abbrev pub Either : Run → Type 0
    Either v = P v ⊎ Q v

    -- where the first place isn't after the other
    left_least : (p q : ℕ) → p ≤ q → Surveyed E blocks P (Some p) → Surveyed E blocks Q (Some q) → Surveyed E blocks Either (Some p)
    left_least p q h s t = (s.0, inl s.1, s.2, λ w n k b. elim k [ inl i ↦ s.3 w n i b | inr j ↦ (let m = t.3 w n j b in omega (arith, h, m)) ])

    right_least : (p q : ℕ) → q ≤ p → Surveyed E blocks P (Some p) → Surveyed E blocks Q (Some q) → Surveyed E blocks Either (Some q)
    right_least p q h s t = (t.0, inr t.1, t.2, λ w n k b. elim k [ inl i ↦ (let m = s.3 w n i b in omega (arith, h, m)) | inr j ↦ t.3 w n j b ])

    both_least : (p q : ℕ) → Surveyed E blocks P (Some p) → Surveyed E blocks Q (Some q) → Surveyed E blocks Either (Some (min p q))
    both_least p q s t = elim (cases_lt p q) [
      | inl h ↦ (let e : p ≡ min p q = omega arith in subst (λ n. Surveyed E blocks Either (Some n)) e (left_least p q (omega arith) s t))
      | inr h ↦ (let e : q ≡ min p q = omega arith in subst (λ n. Surveyed E blocks Either (Some n)) e (right_least p q h s t))
    ]

    pub survey_both : (a b : Option ℕ) → Surveyed E blocks P a → Surveyed E blocks Q b → Surveyed E blocks Either (lesser a b)
    survey_both None None s t = λ v k. elim k [ inl i ↦ s v i | inr j ↦ t v j ]
    survey_both None (Some q) s t = (t.0, inr t.1, t.2, λ w n k b. elim k [ inl i ↦ absurd (typed_no_place E blocks w n (s w i) b) | inr j ↦ t.3 w n j b ])
    survey_both (Some p) None s t = (s.0, inl s.1, s.2, λ w n k b. elim k [ inl i ↦ s.3 w n i b | inr j ↦ absurd (typed_no_place E blocks w n (t w j) b) ])
    survey_both (Some p) (Some q) s t = both_least p q s t

  pub survey_none : (P : Run → Type 0) → ((v : Run) → P v → ⊥) → Surveyed E blocks P None
  survey_none P none = λ v k. absurd (none v k)

  -- ---- a statement that isn't typed, by what is found inside of it

  pub surveyed_place : (r : Enclosing) (s : Scopes) (x : Stmt) (a : Option ℕ) → ((t : Scopes) → Leaves E blocks r s (kind_of x) t → ⊥) → Surveyed E blocks (Inside E blocks r s (kind_of x)) a
      → IsUntypedPlace E blocks (run r s (x ∷ [])) (place_or (out-Stmt x).start a)
  surveyed_place r s x None n y = itself_place E blocks r s x n y
  surveyed_place r s x (Some p) n y = inside_place E blocks r s x y.0 p y.1 y.2 y.3
