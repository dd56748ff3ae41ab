-- How many numbers up to one stand in an order before another.
use Rattle.std.proofs.Common.{◌≡◌, ℕ, zero, suc, ◌<◌, ◌≤◌, Bool, true, false, inl, inr, refl, ap, arith, if◌then◌else◌}
use Rattle.std.specs.Prelude.{nat_lt}
use Rattle.std.proofs.lemmas.Bool.Decides.{nat_tests}
use Rattle.go_typings.proofs.Cells.{either}

-- one more where the test holds
abbrev one_more : Bool → ℕ → ℕ
one_more b n = if b then suc n else n

more_bound : (b : Bool) (c n : ℕ) → c ≤ n → one_more b c ≤ suc n
more_bound true c n h = omega (arith, h)
more_bound false c n h = omega (arith, h)

more_strict : (b : Bool) (c n : ℕ) → suc c ≤ n → suc (one_more b c) ≤ suc n
more_strict true c n h = omega (arith, h)
more_strict false c n h = omega (arith, h)

none_more : (b : Bool) (c n : ℕ) → b ≡ false → c ≤ n → suc (one_more b c) ≤ suc n
none_more true c n e h = absurd (cc)
none_more false c n e h = omega (arith, h)

both_more : (a b : Bool) (c n : ℕ) → (a ≡ true → b ≡ true) → c ≤ n → one_more a c ≤ one_more b n
both_more true true c n f h = omega (arith, h)
both_more true false c n f h = let e : false ≡ true = f refl in absurd (cc)
both_more false true c n f h = omega (arith, h)
both_more false false c n f h = h

both_strict : (a b : Bool) (c n : ℕ) → (a ≡ true → b ≡ true) → suc c ≤ n → suc (one_more a c) ≤ one_more b n
both_strict true true c n f h = omega (arith, h)
both_strict true false c n f h = let e : false ≡ true = f refl in absurd (cc)
both_strict false true c n f h = omega (arith, h)
both_strict false false c n f h = h

new_strict : (a b : Bool) (c n : ℕ) → a ≡ false → b ≡ true → c ≤ n → suc (one_more a c) ≤ one_more b n
new_strict true b c n e f h = absurd (cc)
new_strict false true c n e f h = omega (arith, h)
new_strict false false c n e f h = absurd (cc)

module _ (order : ℕ → ℕ) where
  -- how many of the first numbers come before this place
  abbrev pub before_count : ℕ → ℕ → ℕ
  before_count k zero = zero
  before_count k (suc n) = one_more (nat_lt (order n) k) (before_count k n)

  pub bound : (k n : ℕ) → before_count k n ≤ n
  bound k zero = omega arith
  bound k (suc n) = more_bound (nat_lt (order n) k) (before_count k n) n (bound k n)

  raised : (j k i : ℕ) → j ≤ k → nat_lt i j ≡ true → nat_lt i k ≡ true
  raised j k i h e = grind (arith, nat_tests, h, e)

  mono : (j k n : ℕ) → j ≤ k → before_count j n ≤ before_count k n
  mono j k zero h = omega arith
  mono j k (suc n) h = both_more (nat_lt (order n) j) (nat_lt (order n) k) (before_count j n) (before_count k n) (raised j k (order n) h) (mono j k n h)

  not_below : (i j : ℕ) → i ≡ j → nat_lt i j ≡ false
  not_below i j e = grind (arith, nat_tests, e)

  is_below : (i j k : ℕ) → i ≡ j → j < k → nat_lt i k ≡ true
  is_below i j k e h = grind (arith, nat_tests, e, h)

  -- a number doesn't come before its own place
  pub not_counted : (m n : ℕ) → m < n → suc (before_count (order m) n) ≤ n
  not_counted m zero l = absurd (omega (arith, l))
  not_counted m (suc n) l = elim (either (nat_lt m n)) [
    | inl e ↦ (let h : m < n = grind (arith, nat_tests, e) in more_strict (nat_lt (order n) (order m)) (before_count (order m) n) n (not_counted m n h))
    | inr e ↦ (let q : n ≡ m = grind (arith, nat_tests, e, l) in none_more (nat_lt (order n) (order m)) (before_count (order m) n) n (not_below (order n) (order m) (ap order q)) (bound (order m) n))
  ]

  -- but it comes before a later one
  pub counted : (m k n : ℕ) → order m < k → m < n → suc (before_count (order m) n) ≤ before_count k n
  counted m k zero h l = absurd (omega (arith, l))
  counted m k (suc n) h l = elim (either (nat_lt m n)) [
    | inl e ↦ (
        let i : m < n = grind (arith, nat_tests, e) in
        let j : order m ≤ k = omega (arith, h) in
        both_strict (nat_lt (order n) (order m)) (nat_lt (order n) k) (before_count (order m) n) (before_count k n) (raised (order m) k (order n) j) (counted m k n h i)
        )
    | inr e ↦ (
        let q : n ≡ m = grind (arith, nat_tests, e, l) in
        let j : order m ≤ k = omega (arith, h) in
        new_strict (nat_lt (order n) (order m)) (nat_lt (order n) k) (before_count (order m) n) (before_count k n) (not_below (order n) (order m) (ap order q)) (is_below (order n) (order m) k (ap order q) h) (mono (order m) k n j)
        )
  ]
