-- The next number that is flagged is one more of those that are.
use Rattle.std.proofs.Common.{◌≡◌, ℕ, ◌+◌, ◌<◌, Bool, true, false, List, [], ◌∷◌, ◌++◌, sym, ◌∙◌, ap, subst, ◌⊎◌, inl, inr, arith}
use Rattle.go_base.specs.Lists.{Has}
use Rattle.go_base.proofs.Members.{has_split}
use Rattle.go_graphs.specs.Flags.{is_flagged}
use Rattle.go_graphs.proofs.Flagging.{apart}
use Rattle.go_reach.specs.Numbers.{AreFlagged}

pub has_left : (xs ys : List ℕ) (n : ℕ) → Has xs n → Has (xs ++ ys) n
has_left [] ys n h = absurd h
has_left (x ∷ xs) ys n (inl e) = inl e
has_left (x ∷ xs) ys n (inr h) = inr (has_left xs ys n h)

pub has_right : (xs ys : List ℕ) (n : ℕ) → Has ys n → Has (xs ++ ys) n
has_right [] ys n h = h
has_right (x ∷ xs) ys n h = inr (has_right xs ys n h)

last_or_before : (n k : ℕ) → n < k + 1 → (n ≡ k) ⊎ (n < k)
last_or_before n k h = grind (arith, h)

module _ (flags : List Bool) (count : ℕ) (old : List ℕ) (are : AreFlagged flags count old) where
  added : is_flagged flags count ≡ true → (n : ℕ) → Has (old ++ count ∷ []) n → (n < count + 1) × (is_flagged flags n ≡ true)
  added e n h = elim (has_split old (count ∷ []) n h) [
    | inl i ↦ (let p = (are n).0 i in let l = p.0 in (omega (arith, l), p.1))
    | inr i ↦ elim i [ inl q ↦ subst (λ (z : ℕ). (z < count + 1) × (is_flagged flags z ≡ true)) q (omega arith, e) | inr z ↦ absurd z ]
  ]

  had : (n : ℕ) → (n < count + 1) × (is_flagged flags n ≡ true) → Has (old ++ count ∷ []) n
  had n k = elim (last_or_before n count k.0) [
    | inl q ↦ has_right old (count ∷ []) n (inl (sym q))
    | inr l ↦ has_left old (count ∷ []) n ((are n).1 (l, k.1))
  ]

  pub flagged_more : is_flagged flags count ≡ true → AreFlagged flags (count + 1) (old ++ count ∷ [])
  flagged_more e n = (added e n, had n)

  same : is_flagged flags count ≡ false → (n : ℕ) → (n < count + 1) × (is_flagged flags n ≡ true) → Has old n
  same e n k = elim (last_or_before n count k.0) [
    | inl q ↦ apart (sym k.1 ∙ ap (is_flagged flags) q ∙ e)
    | inr l ↦ (are n).1 (l, k.1)
  ]

  pub flagged_same : is_flagged flags count ≡ false → AreFlagged flags (count + 1) old
  flagged_same e n = ((λ h. (let p = (are n).0 h in let l = p.0 in (omega (arith, l), p.1))), same e n)
