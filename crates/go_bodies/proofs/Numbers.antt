-- Tests of numbers, and what they say.
use Rattle.std.proofs.Common.{◌≡◌, ◌<◌, ◌≤◌, ℕ, true, false, nat_eq, nat_le, nat_cmp, Less, sym, arith}
use Rattle.std.proofs.lemmas.Bool.Decides.{nat_tests}
use Rattle.std.specs.Cmp.{nat_cmp_is, ranked}

pub itself : (n : ℕ) → nat_eq n n ≡ true
itself n = grind (arith, nat_tests)

pub equal : (m n : ℕ) → nat_eq m n ≡ true → m ≡ n
equal m n e = grind (arith, nat_tests, e)

pub unequal : (m n : ℕ) → m < n → nat_eq m n ≡ false
unequal m n l = grind (arith, nat_tests, l)

pub at_most : (m n : ℕ) → m ≤ n → nat_le m n ≡ true
at_most m n l = grind (arith, nat_tests, l)

pub more : (m n : ℕ) → n < m → nat_le m n ≡ false
more m n l = grind (arith, nat_tests, l)

pub is_at_most : (m n : ℕ) → nat_le m n ≡ true → m ≤ n
is_at_most m n e = grind (arith, nat_tests, e)

-- the order of two numbers

pub compares_less : (m n : ℕ) → m < n → nat_cmp m n ≡ Less
compares_less m n l = sym (nat_cmp_is m n Less l)

pub is_less : (m n : ℕ) → nat_cmp m n ≡ Less → m < n
is_less m n e = ranked m n Less (sym e)
