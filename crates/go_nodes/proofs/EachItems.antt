-- A walk over a list decides whether a fact holds of each item.
use Rattle.std.proofs.Common.{◌≡◌, ◌<◌, ◌≤◌, ◌+◌, length, get_or, drop, Bool, true, false, ℕ, List, sym, subst}
use Rattle.go_base.specs.Lists.{Each}
use Rattle.go_selectors.specs.Answers.{Decides}
use Rattle.go_selectors.proofs.Lists.{drop_all, drop_next}

module _ {A : Type 0} (P : A → Type 0) where
  -- the fact holds of each item exactly where it holds of each of those that follow
  abbrev pub EachFrom : List A → List A → Type 0
  EachFrom rest xs = (Each P rest → Each P xs) × (Each P xs → Each P rest)

  pub each_begins : (xs : List A) → EachFrom xs xs
  each_begins xs = ((λ h. h), (λ h. h))

  pub each_done : (xs : List A) (i : ℕ) → length xs ≤ i → EachFrom (drop i xs) xs → Each P xs
  each_done xs i h w = w.0 (subst (Each P) (sym (drop_all i xs h)) tt)

  module _ (xs : List A) (i : ℕ) (x : A) (h : i < length xs) (e : x ≡ get_or xs i x) (w : EachFrom (drop i xs) xs) where
    pub each_next : (b : Bool) → b ≡ true → Decides b (P x) → EachFrom (drop (i + 1) xs) xs
    each_next b t d = (
      (λ k. w.0 (subst (Each P) (sym (drop_next i xs x h e)) (subst (λ b. Decides b (P x)) t d, k))),
      (λ k. (subst (Each P) (drop_next i xs x h e) (w.1 k)).1),
    )

    pub each_not : (b : Bool) → b ≡ false → Decides b (P x) → Each P xs → ⊥
    each_not b f d k = (let none : P x → ⊥ = subst (λ b. Decides b (P x)) f d in none) (subst (Each P) (drop_next i xs x h e) (w.1 k)).0
