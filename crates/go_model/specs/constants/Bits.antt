-- Bits of whole numbers in two's complement without end, and the bitwise operators.
-- Public source: Go specification, "Arithmetic operators" and "Constant expressions".
use Rattle.std.specs.Prelude.{ℕ, ◌-◌, ℤ, pos, negsuc, ◌-ℤ◌, neg_ℤ, bit_and, bit_or, bit_xor}
use Rattle.std.specs.Int.{bit_at}

-- bit i of a number, 0 or 1: the bits of -(n + 1) are those of n flipped
abbrev pub bit_of : ℤ → ℕ → ℕ
bit_of (pos n) i = bit_at n i
bit_of (negsuc n) i = 1 - bit_at n i

-- every bit flipped: -x - 1
abbrev pub complement : ℤ → ℤ
complement x = neg_ℤ x -ℤ pos 1

-- the bits of the first natural number that the second one hasn't
abbrev pub bits_without : ℕ → ℕ → ℕ
bits_without m n = bit_xor m (bit_and m n)

-- the bits that both have
abbrev pub and_numbers : ℤ → ℤ → ℤ
and_numbers (pos m) (pos n) = pos (bit_and m n)
and_numbers (pos m) (negsuc n) = pos (bits_without m n)
and_numbers (negsuc m) (pos n) = pos (bits_without n m)
and_numbers (negsuc m) (negsuc n) = negsuc (bit_or m n)

-- the bits that at least one has
abbrev pub or_numbers : ℤ → ℤ → ℤ
or_numbers (pos m) (pos n) = pos (bit_or m n)
or_numbers (pos m) (negsuc n) = negsuc (bits_without n m)
or_numbers (negsuc m) (pos n) = negsuc (bits_without m n)
or_numbers (negsuc m) (negsuc n) = negsuc (bit_and m n)

-- the bits that exactly one has
abbrev pub xor_numbers : ℤ → ℤ → ℤ
xor_numbers (pos m) (pos n) = pos (bit_xor m n)
xor_numbers (pos m) (negsuc n) = negsuc (bit_xor m n)
xor_numbers (negsuc m) (pos n) = negsuc (bit_xor m n)
xor_numbers (negsuc m) (negsuc n) = pos (bit_xor m n)

-- the bits of the first that the second hasn't
abbrev pub and_not_numbers : ℤ → ℤ → ℤ
and_not_numbers x y = and_numbers x (complement y)
