-- Whole numbers of 128 bits.
use Rattle.std.proofs.Common.{◌≡◌, ℕ, ◌-◌, ◌<◌, ◌≤◌, ◌^◌, ◌/◌, min, suc, zero, true, refl, sym, ap, ◌∙◌, cond, ◌&&◌, inl, inr, le-leb, leb, zero-le, arith, Some, None, Option, ℤ, pos, negsuc, ◌-ℤ◌, neg_ℤ, FitsSigned, SomeIff, to_z, of_z, to_z-of_z, true≢false, ap₂, subst, pow_mono, pow_pos}
use Rattle.std.specs.Int.{w128}
use Rattle.std.specs.Int.RustNames.{int_le}
use Rattle.std.specs.Int.Signed.{mag}
use Rattle.std.proofs.lemmas.Int.{ints, to_z_pos}
use Rattle.std.proofs.lemmas.Nat.Bits.{ones_shr}
use Rattle.std.proofs.Math.Dec.{leb-suc-suc}
use Rattle.std.proofs.lemmas.Bool.{cases_lt, lt-leb}
use Rattle.std.proofs.lemmas.Bool.Decides.{nat_tests}
use Rattle.go_const.specs.inner.Bounds.{bounded}
use Rattle.go_model.specs.constants.Constants.{is_number_of}
use Rattle.go_model.specs.declared.constants.class.Integer.TheVariants as i

pub in_bounds : (x : ℤ) → FitsSigned w128 x → bounded (Some x) ≡ Some x
in_bounds (pos n) h = ap (λ b. cond b (Some (pos n)) None) (le-leb n 170141183460469231731687303715884105727 (omega (arith, h.sfits)))
in_bounds (negsuc n) h = ap (λ b. cond (b && true) (Some (negsuc n)) None) (le-leb n 170141183460469231731687303715884105727 (omega (arith, h.sfits)))

pub out_of_bounds : (x : ℤ) → (FitsSigned w128 x → ⊥) → bounded (Some x) ≡ None
out_of_bounds (pos n) h = elim (cases_lt 170141183460469231731687303715884105727 n) [ inr le ↦ absurd (h (record { sfits = omega (arith, le) })) | inl gt ↦ ap (λ b. cond b (Some (pos n)) None) (lt-leb n 170141183460469231731687303715884105727 gt) ]
out_of_bounds (negsuc n) h = elim (cases_lt 170141183460469231731687303715884105727 n) [ inr le ↦ absurd (h (record { sfits = omega (arith, le) })) | inl gt ↦ ap (λ b. cond (b && true) (Some (negsuc n)) None) (lt-leb n 170141183460469231731687303715884105727 gt) ]

pub checked : (r : Option ℤ) (x : ℤ) → SomeIff r (FitsSigned w128 x) x → r ≡ bounded (Some x)
checked None x h = sym (out_of_bounds x h)
checked (Some y) x h = ap Some h.1 ∙ sym (in_bounds x h.0)

ones_fit : (k l : ℕ) → (k ≡ l) × (l ≤ 127) → to_z w128 (2 ^ k - 1) ≡ pos (2 ^ l - 1)
ones_fit k l h = to_z_pos w128 (2 ^ k - 1) (omega (arith, h.0, pow_mono {i = k} {j = 127} (omega (arith, h.0, h.1)), pow_pos k)) ∙ ap (λ j. pos (2 ^ j - 1)) h.0

pub ones_is : (bits m : ℕ) → m ≡ min bits 127 → to_z w128 (170141183460469231731687303715884105727 / 2 ^ (127 - m)) ≡ pos (2 ^ min bits 127 - 1)
ones_is bits m e = rw (ones_shr 127 (127 - m) (omega arith)) (ones_fit (127 - (127 - m)) (min bits 127) (omega (arith, e), omega arith))

-- a limit past 127 bits is none for a number of 128 bits
leb_limit : (m h : ℕ) → m < 2 ^ 127 → leb m (2 ^ min h 127 - 1) ≡ leb m (2 ^ h - 1)
leb_limit m h lt = elim (cases_lt h 128) [ inl small ↦ ap (λ k. leb m (2 ^ k - 1)) (omega arith) | inr large ↦ le-leb m (2 ^ min h 127 - 1) (let e : min h 127 ≡ 127 = omega arith in rw e (omega arith)) ∙ sym (le-leb m (2 ^ h - 1) (omega (arith, pow_mono {i = 127} {j = h} (omega arith)))) ]

neg_below_pos : (p m : ℕ) → int_le (neg_ℤ (pos p)) (pos m) ≡ true
neg_below_pos zero m = le-leb 0 m zero-le
neg_below_pos (suc p) m = refl

neg_below_negsuc : (p m : ℕ) → int_le (neg_ℤ (pos p)) (negsuc m) ≡ leb (suc m) p
neg_below_negsuc zero m = sym (lt-leb (suc m) 0 (omega arith))
neg_below_negsuc (suc p) m = sym (leb-suc-suc m p)

below : (p m : ℕ) → 0 < p → (leb (suc m) p && true) ≡ leb m (p - 1)
below p m lt = grind (arith, nat_tests)

is_signed : (n : ℕ) (z : ℤ) → is_number_of (i.Signed n) z ≡ leb (mag z) (2 ^ (n - 1) - 1)
is_signed n (pos m) = ap (λ b. b && leb m (2 ^ (n - 1) - 1)) (neg_below_pos (2 ^ (n - 1)) m)
is_signed n (negsuc m) = ap (λ b. b && true) (neg_below_negsuc (2 ^ (n - 1)) m) ∙ below (2 ^ (n - 1)) m (pow_pos (n - 1))

pub signed_test : (n h : ℕ) (z : ℤ) → FitsSigned w128 z → h ≡ n - 1 → leb (mag z) (2 ^ min h 127 - 1) ≡ is_number_of (i.Signed n) z
signed_test n h z f e = leb_limit (mag z) h f.sfits ∙ ap (λ k. leb (mag z) (2 ^ k - 1)) e ∙ sym (is_signed n z)

pub unsigned_test : (n m : ℕ) → m < 2 ^ 127 → leb m (2 ^ min n 127 - 1) ≡ is_number_of (i.Unsigned n) (pos m)
unsigned_test n m lt = leb_limit m n lt ∙ ap (λ b. b && leb m (2 ^ n - 1)) (sym (le-leb 0 m zero-le))

-- ---- what the code's tests are

le_read : (a b : ℤ) → mag a < 2 ^ 127 → mag b < 2 ^ 127 → int_le (to_z w128 (of_z w128 a)) (to_z w128 (of_z w128 b)) ≡ int_le a b
le_read a b f g = ap₂ int_le {y = a} {v = b} (to_z-of_z {w = w128} (record { sfits = f })) (to_z-of_z {w = w128} (record { sfits = g }))

pub signed_answer : (n h : ℕ) (z m o : ℤ) → FitsSigned w128 z → mag m < 2 ^ 127 → mag o < 2 ^ 127 → h ≡ n - 1 → m ≡ pos (mag (to_z w128 (of_z w128 z))) → o ≡ pos (2 ^ min h 127 - 1) → int_le (to_z w128 (of_z w128 m)) (to_z w128 (of_z w128 o)) ≡ is_number_of (i.Signed n) z
signed_answer n h z m o f fm fo e em eo = le_read m o fm fo ∙ ap₂ int_le (em ∙ ap (λ y. pos (mag y)) (to_z-of_z f)) eo ∙ signed_test n h z f e

pub unsigned_answer : (n : ℕ) (z o : ℤ) → FitsSigned w128 z → mag o < 2 ^ 127 → int_le (pos 0) (to_z w128 (of_z w128 z)) ≡ true → o ≡ pos (2 ^ min n 127 - 1) → int_le (to_z w128 (of_z w128 z)) (to_z w128 (of_z w128 o)) ≡ is_number_of (i.Unsigned n) z
unsigned_answer n (pos m) o f fo t eo = le_read (pos m) o f.sfits fo ∙ ap (int_le (pos m)) eo ∙ unsigned_test n m f.sfits
unsigned_answer n (negsuc m) o f fo t eo = absurd (true≢false (sym t ∙ ap (int_le (pos 0)) (to_z-of_z f)))

-- 2^n - 1 less a number of 128 bits has more than 128 bits, where n is at least 128
wide : (p : ℕ) (x : ℤ) → 2 ^ 128 ≤ p → FitsSigned w128 x → FitsSigned w128 (pos (p - 1) -ℤ x) → ⊥
wide p (pos zero) le f g = omega (arith, g.sfits)
wide p (pos (suc m)) le f g =
    let e : pos (p - 1) -ℤ pos (suc m) ≡ pos (p - 1 - suc m) = omega (arith, ints, f.sfits) in
    let h : mag (pos (p - 1 - suc m)) < 2 ^ 127 = subst (λ z. mag z < 2 ^ 127) e g.sfits in
    omega (arith, h, f.sfits)
wide p (negsuc m) le f g = omega (arith, g.sfits)

pub unsigned_out : (n : ℕ) (x : ℤ) → 127 < n → FitsSigned w128 x → bounded (Some (pos (2 ^ n - 1) -ℤ x)) ≡ None
unsigned_out n x lt f = out_of_bounds _ (wide (2 ^ n) x (pow_mono {i = 128} {j = n} (omega arith)) f)
