-- The next number that fails is one more of those that do.
use Rattle.std.proofs.Common.{◌≡◌, ℕ, ◌+◌, ◌<◌, Bool, true, List, [], ◌∷◌, ◌++◌, sym, subst, ◌⊎◌, inl, inr, arith}
use Rattle.go_base.specs.Lists.{Has}
use Rattle.go_base.proofs.Members.{has_split}
use Rattle.go_soundness.proofs.Members.{has_left, has_right}
use Rattle.go_sifting.specs.inner.Ends.{AreEnds, fails}

last_or_before : (n k : ℕ) → n < k + 1 → (n ≡ k) ⊎ (n < k)
last_or_before n k h = grind (arith, h)

module _ (standing ranked back : List Bool) (count : ℕ) (old : List ℕ) (are : AreEnds standing ranked back count old) where
  abbrev Fails : ℕ → Bool
  Fails n = fails standing ranked back n

  added : Fails count ≡ true → (n : ℕ) → Has (old ++ count ∷ []) n → (n < count + 1) × (Fails n ≡ true)
  added e n h = elim (has_split old (count ∷ []) n h) [
    | inl i ↦ (let p = (are n).0 i in let l = p.0 in (omega (arith, l), p.1))
    | inr i ↦ elim i [ inl q ↦ subst (λ (z : ℕ). (z < count + 1) × (Fails z ≡ true)) q (omega arith, e) | inr z ↦ absurd z ]
  ]

  had : (n : ℕ) → (n < count + 1) × (Fails n ≡ true) → Has (old ++ count ∷ []) n
  had n k = elim (last_or_before n count k.0) [
    | inl q ↦ has_right old (count ∷ []) n (inl (sym q))
    | inr l ↦ has_left old (count ∷ []) n ((are n).1 (l, k.1))
  ]

  pub ends_more : Fails count ≡ true → AreEnds standing ranked back (count + 1) (old ++ count ∷ [])
  ends_more e n = (added e n, had n)
