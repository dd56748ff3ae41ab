-- Whether two facts hold, by one test after the other.
use Rattle.std.proofs.Common.{◌≡◌, Bool, true, false, subst}
use Rattle.go_selectors.specs.Answers.{Decides}

module _ (A B : Type 0) where
  pub first_fails : (b : Bool) → b ≡ false → Decides b A → A × B → ⊥
  first_fails b f d h = (let none : A → ⊥ = subst (λ b. Decides b A) f d in none) h.0

  with_first : A → (b : Bool) → Decides b B → Decides b (A × B)
  with_first a true d = (a, d)
  with_first a false none = λ h. none h.1

  pub second_decides : (b : Bool) → b ≡ true → Decides b A → (c : Bool) → Decides c B → Decides c (A × B)
  second_decides b t d c e = with_first (subst (λ b. Decides b A) t d) c e
