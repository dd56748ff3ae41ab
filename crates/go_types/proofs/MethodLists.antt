-- A fact of each of some methods, one after another.
use Rattle.std.proofs.Common.{◌≡◌, ◌<◌, ◌+◌, ℕ, Bool, true, false, inl, inr, List, length, take, get_or, subst}
use Rattle.go_selectors.specs.go_base.Lists.{Has}
use Rattle.go_model.specs.declared.types.term.Method.{Method}
use Rattle.go_selectors.specs.Answers.{Decides}
use Rattle.go_selectors.proofs.Lists.{has-back, item_has, taken_next}

-- the fact holds of each
abbrev pub Each : (Method → Type 0) → List Method → Type 0
Each P ms = (m : Method) → Has ms m → P m

module _ (P : Method → Type 0) (ms : List Method) (i : ℕ) (m : Method) (answer : Bool) (h : i < length ms) (e : m ≡ get_or ms i m) where
  pub lacks : answer ≡ false → Decides answer (P m) → Each P ms → ⊥
  lacks f d all = (subst (λ b. Decides b (P m)) f d) (all m (item_has ms i m h e))

  pub has_next : answer ≡ true → Decides answer (P m) → Each P (take i ms) → Each P (take (i + 1) ms)
  has_next f d all x k = elim (has-back (take i ms) m x (subst (λ (w : List Method). Has w x) (taken_next ms i m h e) k)) [
    | inl a ↦ all x a
    | inr s ↦ subst P s (subst (λ b. Decides b (P m)) f d)
  ]
