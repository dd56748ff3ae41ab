-- How many packages are on a level, and below it.
use Rattle.std.proofs.Common.{◌≡◌, ◌<◌, ◌≤◌, ◌+◌, ℕ, zero, suc, Bool, true, false, List, [], ◌∷◌, length, take, refl, ap, inl, inr, arith}
use Rattle.std.specs.Prelude.{nat_eq, nat_lt, slice_index}
use Rattle.std.proofs.lemmas.Bool.Decides.{nat_tests}
use Rattle.go_typings.proofs.Cells.{either}
use Rattle.go_levels.specs.LevelNumbers.{below_level, counted, on_level}

less : (m n : ℕ) → nat_lt m n ≡ true → m < n
less m n e = grind (arith, nat_tests)

not_less : (m n : ℕ) → nat_lt m n ≡ false → n ≤ m
not_less m n e = grind (arith, nat_tests)

same : (m n : ℕ) → nat_eq m n ≡ true → m ≡ n
same m n e = grind (arith, nat_tests)

is_less : (m n : ℕ) → m < n → nat_lt m n ≡ true
is_less m n l = grind (arith, nat_tests)

is_past : (m n : ℕ) → n ≤ m → nat_lt m n ≡ false
is_past m n l = grind (arith, nat_tests)

is_same : (m n : ℕ) → m ≡ n → nat_eq m n ≡ true
is_same m n e = grind (arith, nat_tests)

is_other : (m n : ℕ) → m < n → nat_eq m n ≡ false
is_other m n l = grind (arith, nat_tests)

other : (m n : ℕ) → n ≤ m → nat_eq m n ≡ false → n < m
other m n l e = grind (arith, nat_tests)

one_more : (l k : ℕ) → counted (nat_lt l k) + counted (nat_eq l k) ≡ counted (nat_lt l (k + 1))
one_more l k = elim (either (nat_lt l k)) [
  | inl e ↦ (
      let h = less l k e in
      let a : counted (nat_lt l k) ≡ 1 = ap counted e in
      let b : counted (nat_eq l k) ≡ 0 = ap counted (is_other l k h) in
      let c : counted (nat_lt l (k + 1)) ≡ 1 = ap counted (is_less l (k + 1) (omega (arith, h))) in
      omega (arith, a, b, c)
      )
  | inr e ↦ (
      let h = not_less l k e in
      let a : counted (nat_lt l k) ≡ 0 = ap counted e in
      elim (either (nat_eq l k)) [
        | inl f ↦ (
            let i = same l k f in
            let b : counted (nat_eq l k) ≡ 1 = ap counted f in
            let c : counted (nat_lt l (k + 1)) ≡ 1 = ap counted (is_less l (k + 1) (omega (arith, i))) in
            omega (arith, a, b, c)
            )
        | inr f ↦ (
            let i = other l k h f in
            let b : counted (nat_eq l k) ≡ 0 = ap counted f in
            let c : counted (nat_lt l (k + 1)) ≡ 0 = ap counted (is_past l (k + 1) (omega (arith, i))) in
            omega (arith, a, b, c)
            )
      ]
      )
]

-- those below the next level are those below this one and on it
pub below_more : (ls : List ℕ) (k : ℕ) → below_level ls k + on_level ls k ≡ below_level ls (k + 1)
below_more [] k = refl
below_more (l ∷ ls) k = let h = one_more l k in let r = below_more ls k in omega (arith, h, r)

one_most : (b : Bool) → counted b ≤ 1
one_most true = omega arith
one_most false = omega arith

pub below_most : (ls : List ℕ) (k : ℕ) → below_level ls k ≤ length ls
below_most [] k = omega arith
below_most (l ∷ ls) k = let h = one_most (nat_lt l k) in let r = below_most ls k in omega (arith, h, r)

pub below_first : (ls : List ℕ) → below_level ls 0 ≡ 0
below_first [] = refl
below_first (l ∷ ls) = let h : counted (nat_lt l 0) ≡ 0 = ap counted (is_past l 0 (omega arith)) in let r = below_first ls in omega (arith, h, r)

-- ---- among the first

next : (ls : List ℕ) (n k : ℕ) → n < length ls → on_level (take (suc n) ls) k ≡ on_level (take n ls) k + counted (nat_eq (slice_index ls n) k)
next [] n k l = absurd (omega (arith, l))
next (x ∷ ls) zero k l = omega arith
next (x ∷ ls) (suc n) k l =
    let r : on_level (take (suc n) ls) k ≡ on_level (take n ls) k + counted (nat_eq (slice_index (x ∷ ls) (suc n)) k) = next ls n k (omega (arith, l)) in
    let a : on_level (take (suc (suc n)) (x ∷ ls)) k ≡ counted (nat_eq x k) + on_level (take (suc n) ls) k = refl in
    let b : on_level (take (suc n) (x ∷ ls)) k ≡ counted (nat_eq x k) + on_level (take n ls) k = refl in
    omega (arith, r, a, b)

front : (ls : List ℕ) (n k : ℕ) → on_level (take n ls) k ≤ on_level ls k
front [] zero k = omega arith
front [] (suc n) k = omega arith
front (x ∷ ls) zero k = omega arith
front (x ∷ ls) (suc n) k = let r = front ls n k in omega (arith, r)

pub on_front : (ls : List ℕ) (n k : ℕ) → on_level (take n ls) k ≤ on_level ls k
on_front ls n k = front ls n k

plus_one : (n : ℕ) → n + 1 ≡ suc n
plus_one n = omega arith

pub on_more : (ls : List ℕ) (n k : ℕ) → n < length ls → slice_index ls n ≡ k → on_level (take (n + 1) ls) k ≡ on_level (take n ls) k + 1
on_more ls n k l e =
    let a : on_level (take (n + 1) ls) k ≡ on_level (take (suc n) ls) k = ap (λ (m : ℕ). on_level (take m ls) k) (plus_one n) in
    let b = next ls n k l in
    let c : counted (nat_eq (slice_index ls n) k) ≡ 1 = ap counted (is_same (slice_index ls n) k e) in
    omega (arith, a, b, c)

pub on_least : (ls : List ℕ) (n k : ℕ) → n < length ls → on_level (take n ls) k ≤ on_level (take (n + 1) ls) k
on_least ls n k l =
    let a : on_level (take (n + 1) ls) k ≡ on_level (take (suc n) ls) k = ap (λ (m : ℕ). on_level (take m ls) k) (plus_one n) in
    let b = next ls n k l in
    omega (arith, a, b)
