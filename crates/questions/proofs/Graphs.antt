-- Packages that need packages that are there.
use Rattle.std.proofs.Common.{◌≡◌, ◌<◌, ◌+◌, ◌∙◌, ℕ, List, [], get_or, length, subst, sym, inl, inr, arith}
use Rattle.std.proofs.lemmas.List.{get_or_default}
use Rattle.go_base.specs.Lists.{Has, Each}
use Rattle.go_base.proofs.Members.{each_has}
use Rattle.go_imports.proofs.Members.{below_or}

-- what is needed up to a package is there, where it is before that package and at it
pub next_bound : (graph : List (List ℕ)) (i n m end : ℕ) (needs given : List ℕ) → i < length graph → given ≡ get_or graph i given → needs ≡ given → Each (λ k. k < end) needs
    → ((n m : ℕ) → n < i → Has (get_or graph n []) m → m < end) → n < i + 1 → Has (get_or graph n []) m → m < end
next_bound graph i n m end needs given inside is same below before less h = elim (below_or n i) [
  | inl l ↦ before n m l h
  | inr g ↦ each_has (λ k. k < end) needs m below (subst (λ (xs : List ℕ). Has xs m) (sym (same ∙ is ∙ get_or_default graph i given [] inside)) (subst (λ (k : ℕ). Has (get_or graph k []) m) (let e : n ≡ i = omega (arith, less, g) in e) h))
]
