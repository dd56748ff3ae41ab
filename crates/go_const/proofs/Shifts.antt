-- Shifts of numbers of 128 bits.
use Rattle.std.proofs.Common.{◌≡◌, ◌≢◌, ℕ, ◌-◌, ◌*◌, ◌/◌, ◌%◌, ◌<◌, ◌≤◌, ◌^◌, min, suc, zero, refl, sym, ap, ◌∙◌, arith, None, Some, ℤ, pos, negsuc, neg_ℤ, ◌*ℤ◌, FitsSigned, to_z, of_z, to_z-of_z, pow_mono, inl, inr, lt_of_le_of_lt, mod-eq_of_lt, Option, SomeIff, subst, ap₂}
use Rattle.std.specs.Int.{w128, int_shr}
use Rattle.std.specs.Int.Signed.{mag, mag_shr, shr_z}
use Rattle.std.proofs.Math.Nat.{div-eq_of_lt}
use Rattle.std.proofs.Math.Pow.{pow-lt}
use Rattle.std.proofs.lemmas.Bool.{cases_lt}
use Rattle.std.proofs.lemmas.Int.{to_z_pos}
use Rattle.go_const.specs.inner.Bounds.{bounded}
use Rattle.go_const.proofs.Bounds.{checked, out_of_bounds}

-- a quotient by 2 to the 127 and more is that by 2 to the 127
div_limit : (m count : ℕ) → m < 2 ^ 127 → m / 2 ^ min count 127 ≡ m / 2 ^ count
div_limit m count lt = elim (cases_lt count 128) [ inl small ↦ ap (λ k. m / 2 ^ k) (omega arith) | inr large ↦ let e : min count 127 ≡ 127 = omega arith in rw e (div-eq_of_lt lt ∙ sym (div-eq_of_lt (omega (arith, pow_mono {i = 127} {j = count} (omega arith))))) ]

shr_limit : (x : ℤ) (count : ℕ) → FitsSigned w128 x → shr_z x (2 ^ min count 127) ≡ shr_z x (2 ^ count)
shr_limit (pos m) count f = ap pos (div_limit m count f.sfits)
shr_limit (negsuc m) count f = ap negsuc (div_limit m count f.sfits)

mag_neg : (p : ℕ) → mag (neg_ℤ (pos p)) ≡ p - 1
mag_neg zero = refl
mag_neg (suc p) = omega arith

too_wide : (x : ℤ) (count : ℕ) → x ≢ pos 0 → 127 ≤ count → (x ≡ negsuc 0 → count ≢ 127) → FitsSigned w128 (x *ℤ pos (2 ^ count)) → ⊥
too_wide (pos zero) count n le one f = absurd (n refl)
too_wide (pos (suc m)) count n le one f = omega (arith, f.sfits, pow_mono {i = 127} {j = count} le)
too_wide (negsuc zero) count n le one f = omega (arith, f.sfits, mag_neg (1 * 2 ^ count), pow_mono {i = 128} {j = count} (omega (arith, one refl)))
too_wide (negsuc (suc m)) count n le one f = omega (arith, f.sfits, mag_neg (suc (suc m) * 2 ^ count), pow_mono {i = 127} {j = count} le)

pub shifted_out : (x : ℤ) (count : ℕ) → x ≢ pos 0 → 127 ≤ count → (x ≡ negsuc 0 → count ≢ 127) → bounded (Some (x *ℤ pos (2 ^ count))) ≡ None
shifted_out x count n le one = out_of_bounds _ (too_wide x count n le one)

pub shifted_right_is : (x : ℤ) (count steps : ℕ) → steps ≡ min count 127 → FitsSigned w128 x → to_z w128 (of_z w128 (shr_z (to_z w128 (of_z w128 x)) (2 ^ steps))) ≡ int_shr x count
shifted_right_is x count steps e f = ap (λ y. to_z w128 (of_z w128 (shr_z y (2 ^ steps)))) (to_z-of_z f) ∙ to_z-of_z {w = w128} (record { sfits = lt_of_le_of_lt (mag_shr x (2 ^ steps)) f.sfits }) ∙ ap (λ k. shr_z x (2 ^ k)) e ∙ shr_limit x count f

power_is : (count : ℕ) → count < 127 → to_z w128 ((1 * 2 ^ count) % 2 ^ 128) ≡ pos (2 ^ count)
power_is count lt =
    let below : 2 ^ count < 2 ^ 127 = pow-lt lt in
    let e : (1 * 2 ^ count) % 2 ^ 128 ≡ 2 ^ count = ap (λ m. m % 2 ^ 128) (omega arith) ∙ mod-eq_of_lt (omega (arith, below)) in
    ap (to_z w128) e ∙ to_z_pos w128 (2 ^ count) below

pub shifted_checked : (x : ℤ) (count : ℕ) (r : Option ℤ) → FitsSigned w128 x → count < 127 → SomeIff r (FitsSigned w128 (to_z w128 (of_z w128 x) *ℤ to_z w128 ((1 * 2 ^ count) % 2 ^ 128))) (to_z w128 (of_z w128 x) *ℤ to_z w128 ((1 * 2 ^ count) % 2 ^ 128)) → r ≡ bounded (Some (x *ℤ pos (2 ^ count)))
shifted_checked x count r f lt h = checked r _ (subst (λ z. SomeIff r (FitsSigned w128 z) z) (ap₂ ◌*ℤ◌ (to_z-of_z f) (power_is count lt)) h)
