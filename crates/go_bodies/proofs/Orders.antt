-- Numbers that ascend from one bound to another, and the same as an order of keys.
use Rattle.std.proofs.Common.{◌≡◌, ◌<◌, ◌≤◌, ℕ, suc, List, [], ◌∷◌, ◌++◌, nat_cmp, Less, arith}
use Rattle.std.specs.List.{AllByRecursion}
use Rattle.std.specs.List.Sorted.{IsStrictlySortedBy}
use Rattle.go_bodies.proofs.Numbers.{compares_less, is_less}

-- each number is at least the bound and greater than those before it, and the second bound is greater than all
abbrev pub Ascends : ℕ → List ℕ → ℕ → Type 0
Ascends low [] high = low ≤ high
Ascends low (n ∷ ns) high = (low ≤ n) × Ascends (suc n) ns high

pub bounds : (low : ℕ) (ns : List ℕ) (high : ℕ) → Ascends low ns high → low ≤ high
bounds low [] high a = a
bounds low (n ∷ ns) high a = omega (arith, a.0, bounds (suc n) ns high a.1)

pub ascends_both : (low : ℕ) (ms ns : List ℕ) (middle high : ℕ) → Ascends low ms middle → Ascends middle ns high → Ascends low (ms ++ ns) high
ascends_both low [] [] middle high a b = omega (arith, a, b)
ascends_both low [] (n ∷ ns) middle high a b = (omega (arith, a, b.0), b.1)
ascends_both low (m ∷ ms) ns middle high a b = (a.0, ascends_both (suc m) ms ns middle high a.1 b)

-- the first of two lists, and the second
pub record Parted (low : ℕ) (ms ns : List ℕ) (high : ℕ) : Type 0 where
  pub middle : ℕ
  pub first : Ascends low ms middle
  pub second : Ascends middle ns high

pub ascends_parts : (low : ℕ) (ms ns : List ℕ) (high : ℕ) → Ascends low (ms ++ ns) high → Parted low ms ns high
ascends_parts low [] ns high a = record { middle = low; first = omega arith; second = a }
ascends_parts low (m ∷ ms) ns high a = let p = ascends_parts (suc m) ms ns high a.1 in record { middle = p.middle; first = (a.0, p.first); second = p.second }

-- As an order

less_than_all : (n low : ℕ) (ns : List ℕ) (high : ℕ) → n < low → Ascends low ns high → AllByRecursion (λ m. nat_cmp n m ≡ Less) ns
less_than_all n low [] high l a = tt
less_than_all n low (m ∷ ns) high l a = (compares_less n m (omega (arith, l, a.0)), less_than_all n (suc m) ns high (omega (arith, l, a.0)) a.1)

pub in_order : (low : ℕ) (ns : List ℕ) (high : ℕ) → Ascends low ns high → IsStrictlySortedBy nat_cmp ns
unfolding IsStrictlySortedBy
in_order low [] high a = tt
in_order low (n ∷ ns) high a = (less_than_all n (suc n) ns high (omega arith) a.1, in_order (suc n) ns high a.1)

-- each of the numbers is at least the bound
abbrev AtLeast : ℕ → List ℕ → Type 0
AtLeast low [] = Unit {0}
AtLeast low (n ∷ ns) = (low ≤ n) × AtLeast low ns

at_least : (n : ℕ) (ns : List ℕ) → AllByRecursion (λ m. nat_cmp n m ≡ Less) ns → AtLeast (suc n) ns
at_least n [] a = tt
at_least n (m ∷ ns) a = (omega (arith, is_less n m a.0), at_least n ns a.1)

-- numbers in order ascend to some bound
pub ascends_from : (low : ℕ) (ns : List ℕ) → AtLeast low ns → IsStrictlySortedBy nat_cmp ns → (high : ℕ) × Ascends low ns high
unfolding IsStrictlySortedBy
ascends_from low [] b s = (low, omega arith)
ascends_from low (n ∷ ns) b s = let k = ascends_from (suc n) ns (at_least n ns s.0) s.1 in (k.0, (b.0, k.1))

all_at_least : (ns : List ℕ) → AtLeast 0 ns
all_at_least [] = tt
all_at_least (n ∷ ns) = (omega arith, all_at_least ns)

pub ascends_all : (ns : List ℕ) → IsStrictlySortedBy nat_cmp ns → (high : ℕ) × Ascends 0 ns high
ascends_all ns s = ascends_from 0 ns (all_at_least ns) s
