-- The least number with a property.
use Rattle.std.proofs.Common.{◌≡◌, ◌⊎◌, ℕ, zero, suc, ◌<◌, ◌≤◌, ◌-◌, sym, subst, inl, inr, arith}
use Rattle.go_existence.specs.Existence.{NotNone}
use Rattle.go_existence.proofs.DoubleNegation.{below_or, decided, so, sure, bind}

module _ (P : ℕ → Type 0) where
  abbrev pub NoneBelow : ℕ → Type 0
  NoneBelow n = (k : ℕ) → k < n → P k → ⊥

  abbrev pub IsLeast : ℕ → Type 0
  IsLeast m = P m × NoneBelow m

  none_more : (n : ℕ) → NoneBelow n → (P n → ⊥) → NoneBelow (suc n)
  none_more n h never = λ k l p. elim (below_or k n l) [ inl m ↦ h k m p | inr e ↦ never (subst P (sym e) p) ]

  -- below a number stands the least one, or none
  pub least_or_none : (n : ℕ) → NotNone (((m : ℕ) × (m < n) × IsLeast m) ⊎ NoneBelow n)
  least_or_none zero = sure (inr (λ k l p. omega (arith, l)))
  least_or_none (suc n) = bind (least_or_none n) (λ found. elim found [
    | inl m ↦ sure (inl (m.0, omega (arith, m.1), m.2))
    | inr none ↦ so (decided (P n)) (λ d. elim d [ inl p ↦ inl (n, omega arith, (p, none)) | inr never ↦ inr (none_more n none never) ])
  ])

  pub least : (n : ℕ) → P n → NotNone ((m : ℕ) × IsLeast m)
  least n p = so (least_or_none n) (λ found. elim found [ inl m ↦ (m.0, m.2) | inr none ↦ (n, (p, none)) ])

-- a number with a property that only numbers below some other one have: the greatest one
pub greatest : (P : ℕ → Type 0) (bound : ℕ) → ((n : ℕ) → P n → n < bound) → (n : ℕ) → P n → NotNone ((m : ℕ) × P m × ((k : ℕ) → m < k → P k → ⊥))
greatest P bound below n p = so (least (λ left. (left ≤ bound) × P (bound - left)) (bound - n) (omega arith, subst P (back n (below n p)) p)) (λ m. (
  bound - m.0,
  m.1.0.1,
  λ k above q. m.1.1 (bound - k) (let b = m.1.0.0 in let c = below k q in omega (arith, above, b, c)) (omega arith, subst P (back k (below k q)) q),
))
  where
    back : (k : ℕ) → k < bound → k ≡ bound - (bound - k)
    back k h = omega (arith, h)
