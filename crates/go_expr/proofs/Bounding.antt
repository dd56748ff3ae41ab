-- Operands whose types are within bounds.
use Rattle.std.proofs.Common.{◌≡◌, ◌<◌, ◌≤◌, ◌+◌, ℕ, length, get_or, drop, List, [], ◌∷◌, refl, sym, subst, Bool, true, false, IsTrue, ◌↔◌}
use Rattle.go_base.specs.Lists.{Each}
use Rattle.go_model.specs.declared.types.package.ConstTerm.{ConstTerm}
use Rattle.go_model.specs.declared.types.package.ConstTerm.TheVariants as constant
use Rattle.go_model.specs.declared.types.term.Term.{Term}
use Rattle.go_model.specs.types.Bounds.{IsWithinBounds}
use Rattle.go_rules.specs.Operands.{ConstWithin, ShapeWithin}
use Rattle.go_rules.specs.declared.operand.Shape.{Shape}
use Rattle.go_rules.specs.declared.operand.Shape.TheVariants as shape
use Rattle.go_calls.specs.go_selectors.Answers.{Decides}
use Rattle.go_calls.proofs.go_selectors_proofs.Lists.{drop_all, drop_next}

pub decides : (P : Type 0) (b : Bool) → (IsTrue b ↔ P) → Decides b P
decides P true d = d.0 refl
decides P false d = λ p. not_true (d.1 p)
  where
    not_true : IsTrue false → ⊥
    not_true h = absurd (cc)

pub const_of_term : (c : ConstTerm) (t : Term) (b : Bool) → c ≡ constant.OfTerm t → (IsTrue b ↔ IsWithinBounds t) → Decides b (ConstWithin c)
const_of_term c t b e d = subst (λ (x : ConstTerm). Decides b (ConstWithin x)) (sym e) (decides (IsWithinBounds t) b d)

pub shape_of : (s k : Shape) (b : Bool) → s ≡ k → Decides b (ShapeWithin k) → Decides b (ShapeWithin s)
shape_of s k b e d = subst (λ (x : Shape). Decides b (ShapeWithin x)) (sym e) d

-- how far types were seen to be within bounds
abbrev pub WithinFrom : List Term → List Term → Type 0
WithinFrom ts rest = (Each IsWithinBounds rest → Each IsWithinBounds ts) × (Each IsWithinBounds ts → Each IsWithinBounds rest)

module _ (ts : List Term) (i : ℕ) (t : Term) (h : i < length ts) (e : t ≡ get_or ts i t) (w : WithinFrom ts (drop i ts)) where
  here : Each IsWithinBounds ts → Each IsWithinBounds (t ∷ drop (i + 1) ts)
  here a = subst (Each IsWithinBounds) (drop_next i ts t h e) (w.1 a)

  pub within_next : IsWithinBounds t → WithinFrom ts (drop (i + 1) ts)
  within_next b = ((λ a. w.0 (subst (Each IsWithinBounds) (sym (drop_next i ts t h e)) (b, a))), (λ a. (here a).1))

  pub within_not : (IsWithinBounds t → ⊥) → Each IsWithinBounds ts → ⊥
  within_not none a = none (here a).0

pub within_all : (ts : List Term) (i : ℕ) → length ts ≤ i → WithinFrom ts (drop i ts) → Each IsWithinBounds ts
within_all ts i h w = w.0 (subst (Each IsWithinBounds) (sym (drop_all i ts h)) tt)
