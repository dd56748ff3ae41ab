-- The parts of a number literal behind its digits.
use Rattle.std.proofs.Common.{◌≡◌, ◌⊎◌, inl, inr, ℕ, suc, ◌+◌, ◌<◌, ◌≤◌, true, false, ◌||◌, ◌==◌, List, [], ◌∷◌, ◌++◌, length, take, drop, refl, sym, ap, ◌∙◌, subst, arith, length-append, length-drop, append_assoc}
use Rattle.std.proofs.lemmas.Bool.Decides.{nat_tests}
use Rattle.std.proofs.lemmas.List.{drop_at, append-nil}
use Rattle.go_syntax.specs.lexical.Numbers.{is_digit_of, is_e, is_p, is_sign, AreDigits, one_digit, digit_more, digit_apart, Optional, IsExponent, plain_exponent, signed_exponent}
use Rattle.go_lex.specs.inner.DigitLengths.{begins_digit, goes_on, more_len, digits_len}
use Rattle.go_lex.specs.inner.NumberLengths.{is_mark, sign_len, with_digits, exponent_len, fraction_len, imaginary_len}
use Rattle.go_lex.proofs.DigitRuns.{digits_first, digits_bound, digits_exact, digits_are_more, no_digits, stops_no_digit, digits_some, digits_stand, digits_within}

zero_more : (n : ℕ) → 0 + n ≡ n
zero_more n = omega arith

-- digits at the start, as the code counts them
pub all_digits : (base : ℕ) (ds more : List ℕ) → AreDigits base ds → digits_len base (ds ++ more) ≡ more_len base (ds ++ more)
all_digits base ds more r = digits_are_more base (ds ++ more) (digits_first base ds more r)

pub some_bound : (base : ℕ) (ds more : List ℕ) → Optional (AreDigits base) ds → length ds ≤ digits_len base (ds ++ more)
some_bound base ds more o =
    elim o [ inl e ↦ omega (arith, ap length e) | inr r ↦ omega (arith, all_digits base ds more r, digits_bound base ds more r) ]

pub some_exact : (base : ℕ) (ds more : List ℕ) → Optional (AreDigits base) ds → goes_on base more ≡ false → digits_len base (ds ++ more) ≡ length ds
some_exact base ds more o stop =
    elim o [
      | inl e ↦ subst (λ (xs : List ℕ). digits_len base (xs ++ more) ≡ length xs) (sym e) (no_digits base more (stops_no_digit base more stop))
      | inr r ↦ all_digits base ds more r ∙ digits_exact base ds more r stop
    ]

-- exponents
digit_no_sign : (d : ℕ) → is_digit_of 10 d ≡ true → is_sign d ≡ false
digit_no_sign d h = grind (arith, nat_tests)

no_sign : (ds more : List ℕ) → AreDigits 10 ds → sign_len (ds ++ more) ≡ 0
no_sign ds more (one_digit {d = d} h) = rw (digit_no_sign d h) refl
no_sign ds more (digit_more {d = d} h r) = rw (digit_no_sign d h) refl
no_sign ds more (digit_apart {d = d} h r) = rw (digit_no_sign d h) refl

with_some : (n d : ℕ) → 0 < d → with_digits n d ≡ n + d
with_some n d h = grind (arith, nat_tests)

exponent_step : (base m : ℕ) (bs : List ℕ) → is_mark base m ≡ true → exponent_len base (m ∷ bs) ≡ with_digits (1 + sign_len bs) (digits_len 10 (drop (sign_len bs) bs))
unfolding exponent_len
exponent_step base m bs h = rw h refl

pub exponent_stop : (base m : ℕ) (bs : List ℕ) → is_mark base m ≡ false → exponent_len base (m ∷ bs) ≡ 0
unfolding exponent_len
exponent_stop base m bs h = rw h refl

pub exponent_none : (base : ℕ) → exponent_len base [] ≡ 0
unfolding exponent_len
exponent_none base = refl

plain_step : (base m : ℕ) (bs : List ℕ) → is_mark base m ≡ true → sign_len bs ≡ 0 → 0 < digits_len 10 bs → exponent_len base (m ∷ bs) ≡ suc (digits_len 10 bs)
plain_step base m bs h none some =
    let a : exponent_len base (m ∷ bs) ≡ with_digits (1 + 0) (digits_len 10 bs) =
    exponent_step base m bs h ∙ ap (λ (n : ℕ). with_digits (1 + n) (digits_len 10 (drop n bs))) none in
    omega (arith, a, with_some 1 (digits_len 10 bs) some)

signed_step : (base m s : ℕ) (bs : List ℕ) → is_mark base m ≡ true → is_sign s ≡ true → 0 < digits_len 10 bs → exponent_len base (m ∷ (s ∷ bs)) ≡ suc (suc (digits_len 10 bs))
signed_step base m s bs h sign some =
    let one : sign_len (s ∷ bs) ≡ 1 = rw sign refl in
    let a : exponent_len base (m ∷ (s ∷ bs)) ≡ with_digits 2 (digits_len 10 bs) =
    exponent_step base m (s ∷ bs) h ∙ ap (λ (n : ℕ). with_digits (1 + n) (digits_len 10 (drop n (s ∷ bs)))) one in
    omega (arith, a, with_some 2 (digits_len 10 bs) some)

digits_count : (ds more : List ℕ) → AreDigits 10 ds → length ds ≤ digits_len 10 (ds ++ more)
digits_count ds more r = omega (arith, all_digits 10 ds more r, digits_bound 10 ds more r)

pub exponent_bound : (base : ℕ) (es more : List ℕ) → IsExponent (is_mark base) es → length es ≤ exponent_len base (es ++ more)
exponent_bound base es more (plain_exponent {m = m} {ds = ds} h r) =
    let some = digits_some 10 ds r in
    let bound = digits_count ds more r in
    omega (arith, plain_step base m (ds ++ more) h (no_sign ds more r) (omega arith))
exponent_bound base es more (signed_exponent {m = m} {s = s} {ds = ds} h sign r) =
    let some = digits_some 10 ds r in
    let bound = digits_count ds more r in
    omega (arith, signed_step base m s (ds ++ more) h sign (omega arith))

pub exponent_exact : (base : ℕ) (es more : List ℕ) → IsExponent (is_mark base) es → goes_on 10 more ≡ false → exponent_len base (es ++ more) ≡ length es
exponent_exact base es more (plain_exponent {m = m} {ds = ds} h r) stop =
    let some = digits_some 10 ds r in
    let exact = all_digits 10 ds more r ∙ digits_exact 10 ds more r stop in
    omega (arith, plain_step base m (ds ++ more) h (no_sign ds more r) (omega arith))
exponent_exact base es more (signed_exponent {m = m} {s = s} {ds = ds} h sign r) stop =
    let some = digits_some 10 ds r in
    let exact = all_digits 10 ds more r ∙ digits_exact 10 ds more r stop in
    omega (arith, signed_step base m s (ds ++ more) h sign (omega arith))

pub exponent_some : (base : ℕ) (es : List ℕ) → IsExponent (is_mark base) es → 0 < length es
exponent_some base es (plain_exponent h r) = omega arith
exponent_some base es (signed_exponent h sign r) = omega arith

-- an exponent, as the code has found it
some_digits : (bs : List ℕ) → 0 < digits_len 10 bs → begins_digit 10 bs ≡ true
some_digits bs h = elim (begins_digit 10 bs) as (λ t. begins_digit 10 bs ≡ t → t ≡ true) [ true ↦ (λ e. refl) | false ↦ (λ e. absurd (omega (arith, no_digits 10 bs e))) ] refl

with_none : (n d : ℕ) → 0 < with_digits n d → 0 < d
with_none n d h = grind (arith, nat_tests)

digits_at : (bs : List ℕ) → 0 < digits_len 10 bs → AreDigits 10 (take (digits_len 10 bs) bs)
digits_at bs h = let first = some_digits bs h in subst (λ (n : ℕ). AreDigits 10 (take n bs)) (sym (digits_are_more 10 bs first)) (digits_stand 10 bs first)

exponent_found : (base m : ℕ) (bs : List ℕ) → is_mark base m ≡ true → 0 < exponent_len base (m ∷ bs) → IsExponent (is_mark base) (take (exponent_len base (m ∷ bs)) (m ∷ bs))
exponent_found base m [] h some = absurd (let e = exponent_step base m [] h in let f = with_none (1 + 0) 0 (subst (λ (n : ℕ). 0 < n) e some) in omega arith)
exponent_found base m (s ∷ bs) h some =
    elim (is_sign s) as (λ t. is_sign s ≡ t → IsExponent (is_mark base) (take (exponent_len base (m ∷ (s ∷ bs))) (m ∷ (s ∷ bs)))) [
      | true ↦ (λ sign.
          let one : sign_len (s ∷ bs) ≡ 1 = rw sign refl in
          let step = exponent_step base m (s ∷ bs) h ∙ ap (λ (n : ℕ). with_digits (1 + n) (digits_len 10 (drop n (s ∷ bs)))) one in
          let more : 0 < digits_len 10 bs = with_none (1 + 1) (digits_len 10 bs) (subst (λ (n : ℕ). 0 < n) step some) in
          subst (λ (n : ℕ). IsExponent (is_mark base) (take n (m ∷ (s ∷ bs)))) (sym (signed_step base m s bs h sign more)) (signed_exponent h sign (digits_at bs more)))
      | false ↦ (λ sign.
          let none : sign_len (s ∷ bs) ≡ 0 = rw sign refl in
          let step = exponent_step base m (s ∷ bs) h ∙ ap (λ (n : ℕ). with_digits (1 + n) (digits_len 10 (drop n (s ∷ bs)))) none in
          let more : 0 < digits_len 10 (s ∷ bs) = with_none (1 + 0) (digits_len 10 (s ∷ bs)) (subst (λ (n : ℕ). 0 < n) step some) in
          subst (λ (n : ℕ). IsExponent (is_mark base) (take n (m ∷ (s ∷ bs)))) (sym (plain_step base m (s ∷ bs) h none more)) (plain_exponent h (digits_at (s ∷ bs) more)))
    ]
    refl

pub exponent_stand : (base : ℕ) (bytes : List ℕ) → 0 < exponent_len base bytes → IsExponent (is_mark base) (take (exponent_len base bytes) bytes)
exponent_stand base [] some = absurd (omega (arith, exponent_none base))
exponent_stand base (m ∷ bs) some =
    elim (is_mark base m) as (λ t. is_mark base m ≡ t → IsExponent (is_mark base) (take (exponent_len base (m ∷ bs)) (m ∷ bs))) [
      | true ↦ (λ h. exponent_found base m bs h some)
      | false ↦ (λ h. absurd (omega (arith, exponent_stop base m bs h)))
    ]
    refl

with_bound : (n d : ℕ) → with_digits n d ≤ n + d
with_bound n d = grind (arith, nat_tests)

sign_within : (bs : List ℕ) → sign_len bs ≤ length bs
sign_within [] = omega arith
sign_within (b ∷ bs) = elim (is_sign b) as (λ t. is_sign b ≡ t → sign_len (b ∷ bs) ≤ length (b ∷ bs)) [ true ↦ (λ h. rw h (omega arith)) | false ↦ (λ h. rw h (omega arith)) ] refl

pub exponent_within : (base : ℕ) (bytes : List ℕ) → exponent_len base bytes ≤ length bytes
exponent_within base [] = omega (arith, exponent_none base)
exponent_within base (m ∷ bs) =
    elim (is_mark base m) as (λ t. is_mark base m ≡ t → exponent_len base (m ∷ bs) ≤ length (m ∷ bs)) [
      | true ↦ (λ h.
          omega (
            arith,
            exponent_step base m bs h,
            with_bound (1 + sign_len bs) (digits_len 10 (drop (sign_len bs) bs)),
            digits_within 10 (drop (sign_len bs) bs),
            length-drop (sign_len bs) bs,
            sign_within bs,
          ))
      | false ↦ (λ h. omega (arith, exponent_stop base m bs h))
    ]
    refl

-- fractions
pub is_point : (b : ℕ) → (b == 46) ≡ true → b ≡ 46
is_point b h = grind (arith, nat_tests)

pub fraction_point : (base : ℕ) (bs : List ℕ) → fraction_len base (46 ∷ bs) ≡ suc (digits_len base bs)
unfolding fraction_len
fraction_point base bs = omega arith

pub fraction_other : (base b : ℕ) (bs : List ℕ) → (b == 46) ≡ false → fraction_len base (b ∷ bs) ≡ 0
unfolding fraction_len
fraction_other base b bs h = rw h refl

pub fraction_empty : (base : ℕ) → fraction_len base [] ≡ 0
unfolding fraction_len
fraction_empty base = refl

-- the `i` at the end
pub imaginary_here : (bs : List ℕ) → imaginary_len (105 ∷ bs) ≡ 1
unfolding imaginary_len
imaginary_here bs = refl

pub imaginary_stand : (bytes : List ℕ) → 0 < imaginary_len bytes → (imaginary_len bytes ≡ 1) × (take 1 bytes ≡ 105 ∷ [])
unfolding imaginary_len
imaginary_stand [] h = absurd (omega arith)
imaginary_stand (b ∷ bs) h =
    elim (b == 105) as (λ t. (b == 105) ≡ t → (imaginary_len (b ∷ bs) ≡ 1) × (b ∷ [] ≡ 105 ∷ [])) [
      | true ↦ (λ e. let is : b ≡ 105 = grind (arith, nat_tests) in (rw e refl, ap (λ (c : ℕ). c ∷ []) is))
      | false ↦ (λ e. absurd (let none : imaginary_len (b ∷ bs) ≡ 0 = rw e refl in omega arith))
    ]
    refl

-- fraction and exponent together
abbrev pub both_len : ℕ → List ℕ → ℕ
both_len base bytes = fraction_len base bytes + exponent_len base (drop (fraction_len base bytes) bytes)

pub data IsTail (base : ℕ) : List ℕ → Type 0 where
  fraction_tail : {fs es : List ℕ} → Optional (AreDigits base) fs → Optional (IsExponent (is_mark base)) es → IsTail base (46 ∷ (fs ++ es))
  exponent_tail : {es : List ℕ} → IsExponent (is_mark base) es → IsTail base es

-- what the marks and the `i` are to the base
pub record IsMarked (base : ℕ) : Type 0 where
  pub mark_stops : (m : ℕ) (bs : List ℕ) → is_mark base m ≡ true → goes_on base (m ∷ bs) ≡ false
  pub mark_no_point : (m : ℕ) → is_mark base m ≡ true → (m == 46) ≡ false
  pub end_stops : (bs : List ℕ) → goes_on base (105 ∷ bs) ≡ false
  pub end_no_mark : is_mark base 105 ≡ false
  pub point_stops : (bs : List ℕ) → goes_on base (46 ∷ bs) ≡ false

either : (b c d : ℕ) → (b == c || b == d) ≡ true → (b ≡ c) ⊎ (b ≡ d)
either b c d h = grind (arith, nat_tests)

e_is : (P : ℕ → Type 0) (m : ℕ) → is_e m ≡ true → P 101 → P 69 → P m
e_is P m h p q = elim (either m 101 69 h) [ inl e ↦ subst P (sym e) p | inr e ↦ subst P (sym e) q ]

p_is : (P : ℕ → Type 0) (m : ℕ) → is_p m ≡ true → P 112 → P 80 → P m
p_is P m h p q = elim (either m 112 80 h) [ inl e ↦ subst P (sym e) p | inr e ↦ subst P (sym e) q ]

pub marked_ten : IsMarked 10
marked_ten = record {
  mark_stops = λ m bs h. e_is (λ c. goes_on 10 (c ∷ bs) ≡ false) m h refl refl;
  mark_no_point = λ m h. e_is (λ c. (c == 46) ≡ false) m h refl refl;
  end_stops = λ bs. refl;
  end_no_mark = refl;
  point_stops = λ bs. refl;
}

pub marked_sixteen : IsMarked 16
marked_sixteen = record {
  mark_stops = λ m bs h. p_is (λ c. goes_on 16 (c ∷ bs) ≡ false) m h refl refl;
  mark_no_point = λ m h. p_is (λ c. (c == 46) ≡ false) m h refl refl;
  end_stops = λ bs. refl;
  end_no_mark = refl;
  point_stops = λ bs. refl;
}

module _ (base : ℕ) (marked : IsMarked base) where
  pub exponent_stops : (es more : List ℕ) → IsExponent (is_mark base) es → goes_on base (es ++ more) ≡ false
  exponent_stops es more (plain_exponent {m = m} {ds = ds} h r) = marked.mark_stops m (ds ++ more) h
  exponent_stops es more (signed_exponent {m = m} {s = s} {ds = ds} h sign r) = marked.mark_stops m (s ∷ (ds ++ more)) h

  pub exponent_no_fraction : (es more : List ℕ) → IsExponent (is_mark base) es → fraction_len base (es ++ more) ≡ 0
  exponent_no_fraction es more (plain_exponent {m = m} {ds = ds} h r) = fraction_other base m (ds ++ more) (marked.mark_no_point m h)
  exponent_no_fraction es more (signed_exponent {m = m} {s = s} {ds = ds} h sign r) = fraction_other base m (s ∷ (ds ++ more)) (marked.mark_no_point m h)

  pub tail_stops : (ts more : List ℕ) → IsTail base ts → goes_on base (ts ++ more) ≡ false
  tail_stops ts more (fraction_tail {fs = fs} {es = es} f e) = marked.point_stops ((fs ++ es) ++ more)
  tail_stops ts more (exponent_tail e) = exponent_stops ts more e

  pub tail_some : (ts : List ℕ) → IsTail base ts → 0 < length ts
  tail_some ts (fraction_tail f e) = omega arith
  tail_some ts (exponent_tail e) = exponent_some base ts e

  -- a fraction behind which nothing goes on
  pub fraction_exact : (fs more : List ℕ) → Optional (AreDigits base) fs → goes_on base more ≡ false → fraction_len base (46 ∷ (fs ++ more)) ≡ suc (length fs)
  fraction_exact fs more f stop = fraction_point base (fs ++ more) ∙ ap suc (some_exact base fs more f stop)

  both_exact : (fs more : List ℕ) → fraction_len base (46 ∷ (fs ++ more)) ≡ suc (length fs) → both_len base (46 ∷ (fs ++ more)) ≡ suc (length fs) + exponent_len base more
  both_exact fs more e =
      ap (λ (n : ℕ). n + exponent_len base (drop n (46 ∷ (fs ++ more)))) e
      ∙ ap (λ (xs : List ℕ). suc (length fs) + exponent_len base xs) (drop_at (46 ∷ fs) more (suc (length fs)) refl)

  both_exponent : (es more : List ℕ) → IsExponent (is_mark base) es → both_len base (es ++ more) ≡ exponent_len base (es ++ more)
  both_exponent es more e = ap (λ (n : ℕ). n + exponent_len base (drop n (es ++ more))) (exponent_no_fraction es more e) ∙ zero_more (exponent_len base (es ++ more))

  fraction_bound : (fs more : List ℕ) → Optional (AreDigits base) fs → suc (length fs) ≤ both_len base (46 ∷ (fs ++ more))
  fraction_bound fs more f = omega (arith, fraction_point base (fs ++ more), some_bound base fs more f)

  pub tail_bound : (ts more : List ℕ) → IsTail base ts → length ts ≤ both_len base (ts ++ more)
  tail_bound ts more (exponent_tail e) = omega (arith, both_exponent ts more e, exponent_bound base ts more e)
  tail_bound ts more (fraction_tail {fs = fs} {es = es} f o) =
      elim o [
        | inl e ↦ subst (λ (xs : List ℕ). length (46 ∷ (fs ++ xs)) ≤ both_len base (46 ∷ ((fs ++ xs) ++ more))) (sym e)
            (rw append-nil (fraction_bound fs more f))
        | inr e ↦
            (let a : both_len base (46 ∷ (fs ++ (es ++ more))) ≡ suc (length fs) + exponent_len base (es ++ more) =
            both_exact fs (es ++ more) (fraction_exact fs (es ++ more) f (exponent_stops es more e)) in
            rw append_assoc (omega (arith, a, exponent_bound base es more e, length-append fs es)))
      ]

  pub tail_exact : (ts more : List ℕ) → IsTail base ts → both_len base (ts ++ (105 ∷ more)) ≡ length ts
  tail_exact ts more (exponent_tail e) = both_exponent ts (105 ∷ more) e ∙ exponent_exact base ts (105 ∷ more) e refl
  tail_exact ts more (fraction_tail {fs = fs} {es = es} f o) =
      elim o [
        | inl e ↦ subst (λ (xs : List ℕ). both_len base (46 ∷ ((fs ++ xs) ++ (105 ∷ more))) ≡ length (46 ∷ (fs ++ xs))) (sym e)
            (rw append-nil
            (let a = both_exact fs (105 ∷ more) (fraction_exact fs (105 ∷ more) f (marked.end_stops more)) in
            omega (arith, a, exponent_stop base 105 more marked.end_no_mark)))
        | inr e ↦
            (let a : both_len base (46 ∷ (fs ++ (es ++ (105 ∷ more)))) ≡ suc (length fs) + exponent_len base (es ++ (105 ∷ more)) =
            both_exact fs (es ++ (105 ∷ more)) (fraction_exact fs (es ++ (105 ∷ more)) f (exponent_stops es (105 ∷ more) e)) in
            rw append_assoc (omega (arith, a, exponent_exact base es (105 ∷ more) e refl, length-append fs es)))
      ]

  -- no fraction and no exponent before the `i`
  pub no_tail : (more : List ℕ) → both_len base (105 ∷ more) ≡ 0
  no_tail more =
      ap (λ (n : ℕ). n + exponent_len base (drop n (105 ∷ more))) (fraction_other base 105 more refl)
      ∙ zero_more (exponent_len base (105 ∷ more))
      ∙ exponent_stop base 105 more marked.end_no_mark
