-- Bits of whole numbers: the bitwise operators by their bits, and those of numbers of 128 bits.
use Rattle.std.proofs.Common.{◌≡◌, ℕ, ◌+◌, ◌-◌, ◌%◌, ◌<◌, ◌^◌, min, max, suc, zero, refl, sym, ap, ◌∙◌, arith, ℤ, pos, negsuc, FitsSigned, to_z, of_z, to_z-of_z}
use Rattle.std.specs.Int.{bit_at, w128}
use Rattle.std.specs.Int.RustNames.{bit_and, bit_or, bit_xor}
use Rattle.std.proofs.lemmas.Nat.{and_le_l, or_lt, xor_lt}
use Rattle.std.proofs.lemmas.Int.{ints}
use Rattle.std.proofs.lemmas.Nat.Bits.{bit_at-lt, bit_at_and, bit_at_not, bit_at_or, bit_at_xor, same_from_bits_below}
use Rattle.go_model.specs.constants.Bits.{and_not_numbers, and_numbers, bit_of, bits_without, complement, or_numbers, xor_numbers}

complement_pos : (n : ℕ) → complement (pos n) ≡ negsuc n
complement_pos zero = refl
complement_pos (suc n) = ap (λ m. negsuc (suc m)) (omega arith)

complement_negsuc : (n : ℕ) → complement (negsuc n) ≡ pos n
complement_negsuc n = omega (arith, ints)

-- ---- by bits

bit_without : (m n i : ℕ) → bit_at (bits_without m n) i ≡ min (bit_at m i) (1 - bit_at n i)
bit_without m n i = rw (bit_at_xor, bit_at_and) (omega (arith, bit_at-lt m i, bit_at-lt n i))

pub and_bits : (x y : ℤ) (i : ℕ) → bit_of (and_numbers x y) i ≡ min (bit_of x i) (bit_of y i)
and_bits (pos m) (pos n) i = bit_at_and m n i
and_bits (pos m) (negsuc n) i = bit_without m n i
and_bits (negsuc m) (pos n) i = bit_without n m i ∙ omega arith
and_bits (negsuc m) (negsuc n) i = omega (arith, bit_at_or m n i)

pub or_bits : (x y : ℤ) (i : ℕ) → bit_of (or_numbers x y) i ≡ max (bit_of x i) (bit_of y i)
or_bits (pos m) (pos n) i = bit_at_or m n i
or_bits (pos m) (negsuc n) i = omega (arith, bit_without n m i, bit_at-lt m i, bit_at-lt n i)
or_bits (negsuc m) (pos n) i = omega (arith, bit_without m n i, bit_at-lt m i, bit_at-lt n i)
or_bits (negsuc m) (negsuc n) i = omega (arith, bit_at_and m n i)

pub xor_bits : (x y : ℤ) (i : ℕ) → bit_of (xor_numbers x y) i ≡ (bit_of x i + bit_of y i) % 2
xor_bits (pos m) (pos n) i = bit_at_xor m n i
xor_bits (pos m) (negsuc n) i = omega (arith, bit_at_xor m n i, bit_at-lt m i, bit_at-lt n i)
xor_bits (negsuc m) (pos n) i = omega (arith, bit_at_xor m n i, bit_at-lt m i, bit_at-lt n i)
xor_bits (negsuc m) (negsuc n) i = omega (arith, bit_at_xor m n i, bit_at-lt m i, bit_at-lt n i)

pub complement_bits : (x : ℤ) (i : ℕ) → bit_of (complement x) i ≡ 1 - bit_of x i
complement_bits (pos n) i = ap (λ z. bit_of z i) (complement_pos n)
complement_bits (negsuc n) i = ap (λ z. bit_of z i) (complement_negsuc n) ∙ omega (arith, bit_at-lt n i)

pub and_not_bits : (x y : ℤ) (i : ℕ) → bit_of (and_not_numbers x y) i ≡ min (bit_of x i) (1 - bit_of y i)
and_not_bits x y i = and_bits x (complement y) i ∙ ap (min (bit_of x i)) (complement_bits y i)

-- ---- at 128 bits

bits_below : (z : ℤ) → FitsSigned w128 z → of_z w128 z < 2 ^ 128
bits_below (pos n) f = omega (arith, f.sfits)
bits_below (negsuc n) f = omega (arith, f.sfits)

bits_are : (z : ℤ) → FitsSigned w128 z → (i : ℕ) → i < 128 → bit_at (of_z w128 z) i ≡ bit_of z i
bits_are (pos n) f i lt = refl
bits_are (negsuc n) f i lt = ap (λ m. bit_at m i) (omega arith) ∙ bit_at_not w128 n i (omega (arith, f.sfits)) lt

module _ (f g : ℕ → ℕ → ℕ) (bitwise : (a b i : ℕ) → bit_at (g a b) i ≡ f (bit_at a i) (bit_at b i)) (fits : (a b : ℕ) → a < 2 ^ 128 → b < 2 ^ 128 → g a b < 2 ^ 128) where
  same_number : (x y z : ℤ) → FitsSigned w128 x → FitsSigned w128 y → FitsSigned w128 z → ((i : ℕ) → bit_of z i ≡ f (bit_of x i) (bit_of y i)) → to_z w128 (g (of_z w128 x) (of_z w128 y)) ≡ z
  same_number x y z a b c same =
      ap (to_z w128)
      (same_from_bits_below 128 (g (of_z w128 x) (of_z w128 y)) (of_z w128 z) (fits _ _ (bits_below x a) (bits_below y b)) (bits_below z c)
      (λ i lt. bitwise _ _ i ∙ ap (λ k. f k (bit_at (of_z w128 y) i)) (bits_are x a i lt) ∙ ap (f (bit_of x i)) (bits_are y b i lt) ∙ sym (same i) ∙ sym (bits_are z c i lt)))
      ∙ to_z-of_z c

pub and_fits : (x y : ℤ) → FitsSigned w128 x → FitsSigned w128 y → FitsSigned w128 (and_numbers x y)
and_fits (pos m) (pos n) a b = record { sfits = omega (arith, and_le_l m n, a.sfits) }
and_fits (pos m) (negsuc n) a b = record { sfits = xor_lt 127 m (bit_and m n) a.sfits (omega (arith, and_le_l m n, a.sfits)) }
and_fits (negsuc m) (pos n) a b = record { sfits = xor_lt 127 n (bit_and n m) b.sfits (omega (arith, and_le_l n m, b.sfits)) }
and_fits (negsuc m) (negsuc n) a b = record { sfits = or_lt 127 m n a.sfits b.sfits }

pub or_fits : (x y : ℤ) → FitsSigned w128 x → FitsSigned w128 y → FitsSigned w128 (or_numbers x y)
or_fits (pos m) (pos n) a b = record { sfits = or_lt 127 m n a.sfits b.sfits }
or_fits (pos m) (negsuc n) a b = record { sfits = xor_lt 127 n (bit_and n m) b.sfits (omega (arith, and_le_l n m, b.sfits)) }
or_fits (negsuc m) (pos n) a b = record { sfits = xor_lt 127 m (bit_and m n) a.sfits (omega (arith, and_le_l m n, a.sfits)) }
or_fits (negsuc m) (negsuc n) a b = record { sfits = omega (arith, and_le_l m n, a.sfits) }

pub xor_fits : (x y : ℤ) → FitsSigned w128 x → FitsSigned w128 y → FitsSigned w128 (xor_numbers x y)
xor_fits (pos m) (pos n) a b = record { sfits = xor_lt 127 m n a.sfits b.sfits }
xor_fits (pos m) (negsuc n) a b = record { sfits = xor_lt 127 m n a.sfits b.sfits }
xor_fits (negsuc m) (pos n) a b = record { sfits = xor_lt 127 m n a.sfits b.sfits }
xor_fits (negsuc m) (negsuc n) a b = record { sfits = xor_lt 127 m n a.sfits b.sfits }

and_below : (a b : ℕ) → a < 2 ^ 128 → b < 2 ^ 128 → bit_and a b < 2 ^ 128
and_below a b h k = omega (arith, and_le_l a b)

pub complement_fits : (y : ℤ) → FitsSigned w128 y → FitsSigned w128 (complement y)
complement_fits (pos n) f = rw (complement_pos n) (record { sfits = f.sfits })
complement_fits (negsuc n) f = rw (complement_negsuc n) (record { sfits = f.sfits })

complement_is : (y : ℤ) → FitsSigned w128 y → 2 ^ 128 - 1 - of_z w128 y ≡ of_z w128 (complement y)
complement_is (pos n) f = rw (complement_pos n) (omega arith)
complement_is (negsuc n) f = rw (complement_negsuc n) (omega (arith, f.sfits))

module _ (x y : ℤ) (a : FitsSigned w128 x) (b : FitsSigned w128 y) where
  pub and_is : to_z w128 (bit_and (of_z w128 x) (of_z w128 y)) ≡ and_numbers x y
  and_is = same_number min bit_and bit_at_and and_below x y (and_numbers x y) a b (and_fits x y a b) (and_bits x y)

  pub or_is : to_z w128 (bit_or (of_z w128 x) (of_z w128 y)) ≡ or_numbers x y
  or_is = same_number max bit_or bit_at_or (or_lt 128) x y (or_numbers x y) a b (or_fits x y a b) (or_bits x y)

  pub xor_is : to_z w128 (bit_xor (of_z w128 x) (of_z w128 y)) ≡ xor_numbers x y
  xor_is = same_number (λ m n. (m + n) % 2) bit_xor bit_at_xor (xor_lt 128) x y (xor_numbers x y) a b (xor_fits x y a b) (xor_bits x y)

  pub and_not_is : to_z w128 (bit_and (of_z w128 x) (2 ^ 128 - 1 - of_z w128 y)) ≡ and_not_numbers x y
  and_not_is =
      ap (λ m. to_z w128 (bit_and (of_z w128 x) m)) (complement_is y b)
      ∙ same_number min bit_and bit_at_and and_below x (complement y) (and_numbers x (complement y)) a (complement_fits y b) (and_fits x (complement y) a (complement_fits y b)) (and_bits x (complement y))
