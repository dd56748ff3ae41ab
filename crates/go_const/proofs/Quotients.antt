-- Quotients and remainders of whole numbers.
use Rattle.std.proofs.Common.{◌≡◌, ℕ, ◌+◌, ◌-◌, ◌*◌, ◌/◌, ◌%◌, ◌^◌, ◌<◌, suc, zero, refl, ap, arith, ℤ, pos, negsuc, neg_ℤ, ◌+ℤ◌, ◌*ℤ◌, false, pow_pos, mod-lt}
use Rattle.std.proofs.Math.Nat.{zero-mod}
use Rattle.std.specs.Int.RustNames.{int_rem, unsigned_abs}
use Rattle.std.proofs.lemmas.Int.{ints}
use Rattle.go_model.specs.constants.Constants.{exact_shift}

pub remainder_sign : (m : ℕ) (y : ℤ) → (int_rem (pos m) y ≡ pos (m % unsigned_abs y)) × (int_rem (neg_ℤ (pos m)) y ≡ neg_ℤ (pos (m % unsigned_abs y)))
remainder_sign zero y = (refl, rw zero-mod refl)
remainder_sign (suc m) y = (refl, refl)

neg_plus : (q r m : ℕ) → q ≡ r + suc m → neg_ℤ (pos q) +ℤ pos r ≡ negsuc m
neg_plus q r m e = omega (arith, ints)

down : (m p : ℕ) → 0 < p → neg_ℤ (pos (suc (m / p) * p)) +ℤ pos (p - 1 - m % p) ≡ negsuc m
down m p lt = neg_plus (suc (m / p) * p) (p - 1 - m % p) m (omega (arith, lt))

pub rounded_down : (x : ℤ) (count : ℕ) → (rest : ℕ) × (rest < 2 ^ count) × (exact_shift false x count *ℤ pos (2 ^ count) +ℤ pos rest ≡ x)
rounded_down (pos m) count = (m % 2 ^ count, mod-lt m (pow_pos count), ap pos (omega (arith, pow_pos count)))
rounded_down (negsuc m) count = (2 ^ count - 1 - m % 2 ^ count, omega (arith, pow_pos count), down m (2 ^ count) (pow_pos count))
