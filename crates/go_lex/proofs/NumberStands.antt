-- The number literal that the parts' lengths say stands there.
use Rattle.std.proofs.Common.{◌≡◌, ◌⊎◌, inl, inr, ℕ, suc, ◌+◌, ◌<◌, ◌≤◌, Bool, true, false, ◌||◌, ◌&&◌, ◌==◌, List, [], ◌∷◌, ◌++◌, length, take, drop, refl, sym, ap, ◌∙◌, subst, arith, length-drop, append_assoc, Option, Some, None, nat_lt}
use Rattle.std.proofs.lemmas.Bool.Decides.{nat_tests}
use Rattle.std.proofs.Math.Seq.{take-add}
use Rattle.go_syntax.specs.declared.token.TokenKind.{TokenKind}
use Rattle.go_syntax.specs.lexical.Numbers.{is_digit_of, is_first_digit, is_x, base_of, AreDigits, AreBehind, Optional, IsExponent, IsInteger, decimal_integer, octal_integer, prefixed_integer, IsMantissa, whole_mantissa, pointed_mantissa, point_first_mantissa, IsFloat, pointed, pointless, point_first, hexadecimal, IsMultiple, digits_multiple, integer_multiple, float_multiple}
use Rattle.go_lex.specs.declared.number.Number.{Number}
use Rattle.go_lex.specs.inner.DigitLengths.{begins_digit, goes_on, more_len, digits_len}
use Rattle.go_lex.specs.inner.NumberLengths.{is_mark, exponent_len, fraction_len, tail_len, joined_len, imaginary_len, integer_len, number_of, number_kind, decimal_number, prefixed_number, if_digits, prefix_of, number_at, behind_of, IsNumber, int_number, float_number, imaginary_number}
use Rattle.go_lex.specs.inner.Starts.{begins_number}
use Rattle.go_lex.proofs.DigitRuns.{more_stop, more_step, digit_goes, more_within, digits_within, taken, digits_stand, behind_stand, digits_are_more, no_digits}
use Rattle.go_lex.proofs.NumberParts.{both_len, IsTail, fraction_tail, exponent_tail, exponent_stand, exponent_none, exponent_within, fraction_point, fraction_other, fraction_empty, imaginary_stand, is_point}
use Rattle.go_lex.proofs.NumberClaims.{is_zero, len_of_some, len_of_int, kind_imaginary, kind_float, kind_int, decimal_is}
use Rattle.go_lex.proofs.Numbers.{base_cases, number_plain, number_prefixed, some_base}

-- digits at the start, or none
some_digits : (base : ℕ) (bs : List ℕ) → Optional (AreDigits base) (take (digits_len base bs) bs)
some_digits base bs =
    elim (begins_digit base bs) as (λ t. begins_digit base bs ≡ t → Optional (AreDigits base) (take (digits_len base bs) bs)) [
      | true ↦ (λ h. inr (subst (λ (n : ℕ). AreDigits base (take n bs)) (sym (digits_are_more base bs h)) (digits_stand base bs h)))
      | false ↦ (λ h. inl (ap (λ (n : ℕ). take n bs) (no_digits base bs h)))
    ]
    refl

some_exponent : (base : ℕ) (bs : List ℕ) → Optional (IsExponent (is_mark base)) (take (exponent_len base bs) bs)
some_exponent base bs = elim (is_zero (exponent_len base bs)) [ inl e ↦ inl (ap (λ (n : ℕ). take n bs) e) | inr h ↦ inr (exponent_stand base bs h) ]

-- what follows a point
point_len : (base : ℕ) (bs : List ℕ) → both_len base (46 ∷ bs) ≡ suc (digits_len base bs + exponent_len base (drop (digits_len base bs) bs))
point_len base bs =
    let f = fraction_point base bs in
    let e : exponent_len base (drop (fraction_len base (46 ∷ bs)) (46 ∷ bs)) ≡ exponent_len base (drop (digits_len base bs) bs) = ap (λ (n : ℕ). exponent_len base (drop n (46 ∷ bs))) f in
    omega arith

point_take : (base : ℕ) (bs : List ℕ) → take (both_len base (46 ∷ bs)) (46 ∷ bs)
    ≡ 46 ∷ (take (digits_len base bs) bs ++ take (exponent_len base (drop (digits_len base bs) bs)) (drop (digits_len base bs) bs))
point_take base bs =
    ap (λ (n : ℕ). take n (46 ∷ bs)) (point_len base bs)
    ∙ ap (λ (xs : List ℕ). 46 ∷ xs) (take-add (digits_len base bs) (exponent_len base (drop (digits_len base bs) bs)) bs)

no_point : (base b : ℕ) (bs : List ℕ) → (b == 46) ≡ false → both_len base (b ∷ bs) ≡ exponent_len base (b ∷ bs)
no_point base b bs h =
    let f = fraction_other base b bs h in
    let e : exponent_len base (drop (fraction_len base (b ∷ bs)) (b ∷ bs)) ≡ exponent_len base (b ∷ bs) = ap (λ (n : ℕ). exponent_len base (drop n (b ∷ bs))) f in
    omega arith

empty_both : (base : ℕ) → both_len base [] ≡ 0
empty_both base =
    let f = fraction_empty base in
    let e : exponent_len base (drop (fraction_len base []) []) ≡ exponent_len base [] = ap (λ (n : ℕ). exponent_len base (drop n [])) f in
    omega (arith, exponent_none base)

tail_stand : (base : ℕ) (w : List ℕ) → 0 < both_len base w → IsTail base (take (both_len base w) w)
tail_stand base [] some = absurd (omega (arith, empty_both base))
tail_stand base (b ∷ bs) some =
    elim (b == 46) as (λ t. (b == 46) ≡ t → IsTail base (take (both_len base (b ∷ bs)) (b ∷ bs))) [
      | true ↦ (λ h.
          subst (λ (c : ℕ). IsTail base (take (both_len base (c ∷ bs)) (c ∷ bs))) (sym (is_point b h))
          (subst (IsTail base) (sym (point_take base bs)) (fraction_tail (some_digits base bs) (some_exponent base (drop (digits_len base bs) bs)))))
      | false ↦ (λ h.
          let e = no_point base b bs h in
          subst (λ (n : ℕ). IsTail base (take n (b ∷ bs))) (sym e) (exponent_tail (exponent_stand base (b ∷ bs) (omega arith))))
    ]
    refl

pub both_within : (base : ℕ) (w : List ℕ) → both_len base w ≤ length w
both_within base [] = omega (arith, empty_both base)
both_within base (b ∷ bs) =
    elim (b == 46) as (λ t. (b == 46) ≡ t → both_len base (b ∷ bs) ≤ length (b ∷ bs)) [
      | true ↦ (λ h.
          subst (λ (c : ℕ). both_len base (c ∷ bs) ≤ length (c ∷ bs)) (sym (is_point b h))
          (omega (arith, point_len base bs, digits_within base bs, exponent_within base (drop (digits_len base bs) bs), length-drop (digits_len base bs) bs)))
      | false ↦ (λ h. omega (arith, no_point base b bs h, exponent_within base (b ∷ bs)))
    ]
    refl

imaginary_within : (w : List ℕ) → imaginary_len w ≤ length w
unfolding imaginary_len
imaginary_within [] = omega arith
imaginary_within (b ∷ bs) = elim (b == 105) as (λ t. (b == 105) ≡ t → imaginary_len (b ∷ bs) ≤ length (b ∷ bs)) [ true ↦ (λ h. rw h (omega arith)) | false ↦ (λ h. rw h (omega arith)) ] refl

-- a literal stands at the start of some bytes
pub record IsAt (bytes : List ℕ) (n : Number) : Type 0 where
  pub some : 0 < n.len
  pub within : n.len ≤ length bytes
  pub stands : IsNumber n.kind (take n.len bytes)

take_parts : (bytes : List ℕ) (n : ℕ) → 0 < imaginary_len (drop n bytes) → take (n + imaginary_len (drop n bytes)) bytes ≡ take n bytes ++ (105 ∷ [])
take_parts bytes n h =
    let here = imaginary_stand (drop n bytes) h in
    ap (λ (m : ℕ). take (n + m) bytes) here.0 ∙ take-add n 1 bytes ∙ ap (λ (xs : List ℕ). take n bytes ++ xs) here.1

-- a literal of these parts
at_parts : (bytes : List ℕ) (int d t : ℕ) → d + t ≤ length bytes → 0 < d + t → (t ≡ 0 → (0 < int) × (int ≤ length bytes) × IsInteger (take int bytes) × IsMultiple (take d bytes))
    → (0 < t → IsFloat (take (d + t) bytes)) → IsAt bytes (number_of int d t (imaginary_len (drop (d + t) bytes)))
at_parts bytes int d t within some whole part =
    let i = imaginary_len (drop (d + t) bytes) in
    elim (is_zero i) [
      | inl none ↦ elim (is_zero t) [
        | inl e ↦
            (let w = whole e in
            let len = len_of_int int d t i (omega arith) in
            record {
              some = omega (arith, w.0, len);
              within = omega (arith, w.1, len);
              stands = subst (λ (p : TokenKind × ℕ). IsNumber p.0 (take p.1 bytes)) (λ j. (sym (kind_int t i none e) j, sym len j)) (int_number w.2);
            })
        | inr h ↦
            (let len = len_of_some int d t i (omega arith) in
            let same : (number_of int d t i).len ≡ d + t = omega arith in
            record {
              some = omega arith;
              within = omega arith;
              stands = subst (λ (p : TokenKind × ℕ). IsNumber p.0 (take p.1 bytes)) (λ j. (sym (kind_float t i none h) j, sym same j)) (float_number (part h));
            })
      ]
      | inr more ↦
          (let len = len_of_some int d t i (omega arith) in
          let text : take ((number_of int d t i).len) bytes ≡ take (d + t) bytes ++ (105 ∷ []) = ap (λ (n : ℕ). take n bytes) len ∙ take_parts bytes (d + t) more in
          let multiple : IsMultiple (take (d + t) bytes) = elim (is_zero t) [ inl e ↦ (let sum : d + t ≡ d = omega arith in subst (λ (n : ℕ). IsMultiple (take n bytes)) (sym sum) (whole e).3) | inr h ↦ float_multiple (part h) ] in
          record {
            some = omega (arith, len);
            within = omega (arith, len, imaginary_within (drop (d + t) bytes), length-drop (d + t) bytes);
            stands = subst (λ (p : TokenKind × List ℕ). IsNumber p.0 p.1) (λ j. (sym (kind_imaginary t i more) j, sym text j)) (imaginary_number multiple);
          })
    ]

-- decimal literals
float_of : (ds ts : List ℕ) → AreDigits 10 ds → IsTail 10 ts → IsFloat (ds ++ ts)
float_of ds ts r (fraction_tail f e) = pointed r f e
float_of ds ts r (exponent_tail e) = pointless r e

first_digit : (b : ℕ) → is_digit_of 10 b ≡ true → (b == 48) ≡ false → is_first_digit b ≡ true
first_digit b h g = grind (arith, nat_tests)

zero_len : (bs : List ℕ) → digits_len 8 (48 ∷ bs) ≡ suc (more_len 8 bs)
zero_len bs = more_step 8 48 bs refl

ten_len : (b : ℕ) (bs : List ℕ) → is_digit_of 10 b ≡ true → digits_len 10 (b ∷ bs) ≡ suc (more_len 10 bs)
ten_len b bs h = digits_are_more 10 (b ∷ bs) h ∙ more_step 10 b bs (digit_goes 10 b bs h)

is_zero_byte : (a : ℕ) → (a == 48) ≡ true → a ≡ 48
is_zero_byte a h = grind (arith, nat_tests)

integer_stand : (b : ℕ) (bs : List ℕ) → is_digit_of 10 b ≡ true → (0 < integer_len (b ∷ bs)) × (integer_len (b ∷ bs) ≤ length (b ∷ bs)) × IsInteger (take (integer_len (b ∷ bs)) (b ∷ bs))
integer_stand b bs h =
    elim (b == 48) as (λ t. (b == 48) ≡ t → (0 < integer_len (b ∷ bs)) × (integer_len (b ∷ bs) ≤ length (b ∷ bs)) × IsInteger (take (integer_len (b ∷ bs)) (b ∷ bs))) [
      | true ↦ (λ e.
          subst (λ (c : ℕ). (0 < integer_len (c ∷ bs)) × (integer_len (c ∷ bs) ≤ length (c ∷ bs)) × IsInteger (take (integer_len (c ∷ bs)) (c ∷ bs))) (sym (is_zero_byte b e))
          (let len : integer_len (48 ∷ bs) ≡ suc (more_len 8 bs) = zero_len bs in
          (omega arith, omega (arith, more_within 8 bs), subst (λ (n : ℕ). IsInteger (take n (48 ∷ bs))) (sym len) (octal_integer (taken 8 48 bs refl)))))
      | false ↦ (λ e.
          let len : integer_len (b ∷ bs) ≡ suc (more_len 10 bs) = rw e (ten_len b bs h) in
          (omega arith, omega (arith, more_within 10 bs), subst (λ (n : ℕ). IsInteger (take n (b ∷ bs))) (sym len) (decimal_integer (first_digit b h e) (taken 10 b bs h))))
    ]
    refl

decimal_digits_at : (b : ℕ) (bs : List ℕ) → is_digit_of 10 b ≡ true → IsAt (b ∷ bs) (decimal_number (b ∷ bs))
decimal_digits_at b bs h =
    let bytes = b ∷ bs in
    let d = digits_len 10 bytes in
    let w = drop d bytes in
    let t = both_len 10 w in
    let digits : AreDigits 10 (take d bytes) = subst (λ (n : ℕ). AreDigits 10 (take n bytes)) (sym (digits_are_more 10 bytes h)) (digits_stand 10 bytes h) in
    let int = integer_stand b bs h in
    let fits : d + t ≤ length bytes = omega (arith, digits_within 10 bytes, both_within 10 w, length-drop d bytes) in
    rw (decimal_is bytes d refl)
    (at_parts bytes (integer_len bytes) d t fits (omega (arith, ten_len b bs h)) (λ e. (int.0, int.1, int.2, digits_multiple digits))
    (λ some. subst IsFloat (sym (take-add d t bytes)) (float_of (take d bytes) (take t w) digits (tail_stand 10 w some))))

decimal_point_at : (bs : List ℕ) → begins_digit 10 bs ≡ true → IsAt (46 ∷ bs) (decimal_number (46 ∷ bs))
decimal_point_at bs h =
    let bytes = 46 ∷ bs in
    let t = both_len 10 bytes in
    let len = point_len 10 bs in
    let float : IsFloat (take t bytes) =
    subst IsFloat (sym (point_take 10 bs))
    (point_first (subst (λ (n : ℕ). AreDigits 10 (take n bs)) (sym (digits_are_more 10 bs h)) (digits_stand 10 bs h)) (some_exponent 10 (drop (digits_len 10 bs) bs))) in
    let zero_more : 0 + t ≡ t = omega arith in
    rw (decimal_is bytes 0 refl)
    (at_parts bytes (integer_len bytes) 0 t (omega (arith, both_within 10 bytes)) (omega arith) (λ e. absurd (omega arith)) (λ some. subst (λ (n : ℕ). IsFloat (take n bytes)) (sym zero_more) float))

or_cases : (a b : Bool) → (a || b) ≡ true → (a ≡ true) ⊎ (b ≡ true)
or_cases true b h = inl refl
or_cases false b h = inr h

and_both : (a b : Bool) → (a && b) ≡ true → (a ≡ true) × (b ≡ true)
and_both true b h = (refl, h)
and_both false b h = absurd (cc)

decimal_at : (bytes : List ℕ) → begins_number bytes ≡ true → IsAt bytes (decimal_number bytes)
decimal_at [] h = absurd (cc)
decimal_at (b ∷ bs) h =
    elim (or_cases (is_digit_of 10 b) (b == 46 && begins_digit 10 bs) h) [
      | inl digit ↦ decimal_digits_at b bs digit
      | inr both ↦ (let p = and_both (b == 46) (begins_digit 10 bs) both in subst (λ (c : ℕ). IsAt (c ∷ bs) (decimal_number (c ∷ bs))) (sym (is_point b p.0)) (decimal_point_at bs p.1))
    ]

-- literals behind a prefix
more_goes : (base : ℕ) (bs : List ℕ) → 0 < more_len base bs → goes_on base bs ≡ true
more_goes base bs h = elim (goes_on base bs) as (λ t. goes_on base bs ≡ t → t ≡ true) [ true ↦ (λ e. refl) | false ↦ (λ e. absurd (omega (arith, more_stop base bs e))) ] refl

lt_from : (a b : ℕ) → nat_lt a b ≡ true → a < b
lt_from a b h = grind (arith, nat_tests)

digits_at : (base : ℕ) (bs : List ℕ) → 0 < digits_len base bs → AreDigits base (take (digits_len base bs) bs)
digits_at base bs h =
    elim (begins_digit base bs) as (λ t. begins_digit base bs ≡ t → AreDigits base (take (digits_len base bs) bs)) [
      | true ↦ (λ e. subst (λ (n : ℕ). AreDigits base (take n bs)) (sym (digits_are_more base bs e)) (digits_stand base bs e))
      | false ↦ (λ e. absurd (omega (arith, no_digits base bs e)))
    ]
    refl

hex_conditions : (g f e : ℕ) → 0 < joined_len 16 g f e → (0 < e) × ((0 < g) ⊎ (1 < f)) × (joined_len 16 g f e ≡ f + e)
hex_conditions g f e h =
    elim (nat_lt 0 e && (nat_lt 0 g || nat_lt 1 f)) as (λ t. (nat_lt 0 e && (nat_lt 0 g || nat_lt 1 f)) ≡ t → (0 < e) × ((0 < g) ⊎ (1 < f)) × (joined_len 16 g f e ≡ f + e)) [
      | true ↦ (λ u.
          let both = and_both (nat_lt 0 e) (nat_lt 0 g || nat_lt 1 f) u in
          (lt_from 0 e both.0, elim (or_cases (nat_lt 0 g) (nat_lt 1 f) both.1) [ inl x ↦ inl (lt_from 0 g x) | inr x ↦ inr (lt_from 1 f x) ], rw u refl))
      | false ↦ (λ u. absurd (let none : joined_len 16 g f e ≡ 0 = rw u refl in omega arith))
    ]
    refl

-- the mantissa and the exponent behind some digits, or none
abbrev Split : List ℕ → List ℕ → Type 0
Split gs w = (ms : List ℕ) × (es : List ℕ) × (gs ++ take (both_len 16 w) w ≡ ms ++ es) × IsMantissa ms × IsExponent (is_mark 16) es

split_point : (gs bs : List ℕ) → AreBehind 16 gs ⊎ ((gs ≡ []) × (1 < fraction_len 16 (46 ∷ bs))) → 0 < exponent_len 16 (drop (fraction_len 16 (46 ∷ bs)) (46 ∷ bs)) → Split gs (46 ∷ bs)
split_point gs bs o h =
    let k = digits_len 16 bs in
    let e = exponent_len 16 (drop k bs) in
    let fs = take k bs in
    let es = take e (drop k bs) in
    let f = fraction_point 16 bs in
    let some : 0 < e = subst (λ (n : ℕ). 0 < exponent_len 16 (drop n (46 ∷ bs))) f h in
    let exponent : IsExponent (is_mark 16) es = exponent_stand 16 (drop k bs) some in
    let text : gs ++ take (both_len 16 (46 ∷ bs)) (46 ∷ bs) ≡ gs ++ (46 ∷ (fs ++ es)) = ap (λ (xs : List ℕ). gs ++ xs) (point_take 16 bs) in
    elim o [
      | inl r ↦ (gs ++ (46 ∷ fs), es, text ∙ sym (append_assoc gs (46 ∷ fs) es), pointed_mantissa r (some_digits 16 bs), exponent)
      | inr p ↦
          (let more : 0 < k = omega (arith, p.1) in
          (46 ∷ fs, es, text ∙ ap (λ (xs : List ℕ). xs ++ (46 ∷ (fs ++ es))) p.0, point_first_mantissa (digits_at 16 bs more), exponent))
    ]

split_other : (gs : List ℕ) (b : ℕ) (bs : List ℕ) → (b == 46) ≡ false → AreBehind 16 gs ⊎ ((gs ≡ []) × (1 < fraction_len 16 (b ∷ bs))) → 0 < exponent_len 16 (drop (fraction_len 16 (b ∷ bs)) (b ∷ bs)) → Split gs (b ∷ bs)
split_other gs b bs other o h =
    let f = fraction_other 16 b bs other in
    let some : 0 < exponent_len 16 (b ∷ bs) = subst (λ (n : ℕ). 0 < exponent_len 16 (drop n (b ∷ bs))) f h in
    elim o [
      | inl r ↦ (gs, take (exponent_len 16 (b ∷ bs)) (b ∷ bs), ap (λ (n : ℕ). gs ++ take n (b ∷ bs)) (no_point 16 b bs other), whole_mantissa r, exponent_stand 16 (b ∷ bs) some)
      | inr p ↦ absurd (omega (arith, p.1))
    ]

split_hex : (gs w : List ℕ) → AreBehind 16 gs ⊎ ((gs ≡ []) × (1 < fraction_len 16 w)) → 0 < exponent_len 16 (drop (fraction_len 16 w) w) → Split gs w
split_hex gs [] o h = absurd (let e : exponent_len 16 (drop (fraction_len 16 []) []) ≡ exponent_len 16 [] = ap (λ (n : ℕ). exponent_len 16 (drop n [])) (fraction_empty 16) in omega (arith, exponent_none 16))
split_hex gs (b ∷ bs) o h =
    elim (b == 46) as (λ t. (b == 46) ≡ t → Split gs (b ∷ bs)) [
      | true ↦ (λ e.
          let is = is_point b e in
          subst (λ (c : ℕ). Split gs (c ∷ bs)) (sym is)
          (split_point gs bs (subst (λ (c : ℕ). AreBehind 16 gs ⊎ ((gs ≡ []) × (1 < fraction_len 16 (c ∷ bs)))) is o) (subst (λ (c : ℕ). 0 < exponent_len 16 (drop (fraction_len 16 (c ∷ bs)) (c ∷ bs))) is h)))
      | false ↦ (λ e. split_other gs b bs e o h)
    ]
    refl

hex_float : (b : ℕ) (body : List ℕ) → is_x b ≡ true → 0 < tail_len 16 (more_len 16 body) (drop (more_len 16 body) body)
    → (tail_len 16 (more_len 16 body) (drop (more_len 16 body) body) ≡ both_len 16 (drop (more_len 16 body) body))
    × IsFloat (48 ∷ (b ∷ (take (more_len 16 body) body ++ take (both_len 16 (drop (more_len 16 body) body)) (drop (more_len 16 body) body))))
unfolding tail_len
hex_float b body x h =
    let g = more_len 16 body in
    let w = drop g body in
    let f = fraction_len 16 w in
    let e = exponent_len 16 (drop f w) in
    let c = hex_conditions g f e h in
    let front : AreBehind 16 (take g body) ⊎ ((take g body ≡ []) × (1 < f)) = elim (is_zero g) [
      | inl none ↦ elim c.1 [ inl some ↦ absurd (omega arith) | inr long ↦ inr (ap (λ (n : ℕ). take n body) none, long) ]
      | inr some ↦ inl (behind_stand 16 body (more_goes 16 body some))
    ] in
    let s = split_hex (take g body) w front c.0 in
    (c.2, subst (λ (xs : List ℕ). IsFloat (48 ∷ (b ∷ xs))) (sym s.2) (hexadecimal x s.3 s.4))

sixteen_is_x : (b base : ℕ) → base_of b ≡ Some base → base ≡ 16 → is_x b ≡ true
sixteen_is_x b base e = base_cases (λ c n. n ≡ 16 → is_x c ≡ true) b base e (λ _. refl) (λ _. refl) (λ no. absurd (omega arith)) (λ no. absurd (omega arith)) (λ no. absurd (omega arith)) (λ no. absurd (omega arith))

tail_sixteen : (b base g : ℕ) (w : List ℕ) → base_of b ≡ Some base → 0 < tail_len base g w → base ≡ 16
unfolding tail_len
tail_sixteen b base g w e =
    base_cases (λ _ n. 0 < tail_len n g w → n ≡ 16) b base e (λ _. refl) (λ _. refl) (λ no. absurd (omega arith)) (λ no. absurd (omega arith)) (λ no. absurd (omega arith)) (λ no. absurd (omega arith))

moved : (g t i : ℕ) → ◌≡◌ {A = Number} (record { kind = (number_of g g t i).kind; len = 2 + (number_of g g t i).len }) (number_of (suc (suc g)) (suc (suc g)) t i)
moved g t i =
    elim (nat_lt 0 (t + i)) as (λ u. nat_lt 0 (t + i) ≡ u → ◌≡◌ {A = Number} (record { kind = (number_of g g t i).kind; len = 2 + (number_of g g t i).len }) (number_of (suc (suc g)) (suc (suc g)) t i)) [
      | true ↦ (λ e. let sum : 2 + (g + t + i) ≡ suc (suc g) + t + i = omega arith in rw e (ap (λ (n : ℕ). record { kind = number_kind t i; len = n }) sum))
      | false ↦ (λ e. let sum : 2 + g ≡ suc (suc g) = omega arith in rw e (ap (λ (n : ℕ). record { kind = number_kind t i; len = n }) sum))
    ]
    refl

float_at : (b base : ℕ) (body : List ℕ) → base_of b ≡ Some base → 0 < tail_len base (more_len base body) (drop (more_len base body) body)
    → IsFloat (take (suc (suc (more_len base body)) + tail_len base (more_len base body) (drop (more_len base body) body)) (48 ∷ (b ∷ body)))
float_at b base body e h =
    let is = tail_sixteen b base (more_len base body) (drop (more_len base body) body) e h in
    subst (λ (n : ℕ). IsFloat (take (suc (suc (more_len n body)) + tail_len n (more_len n body) (drop (more_len n body) body)) (48 ∷ (b ∷ body)))) (sym is)
    (let g = more_len 16 body in
    let w = drop g body in
    let f = hex_float b body (sixteen_is_x b base e is) (subst (λ (n : ℕ). 0 < tail_len n (more_len n body) (drop (more_len n body) body)) is h) in
    let sum : suc (suc g) + tail_len 16 g w ≡ suc (suc (g + both_len 16 w)) = omega (arith, f.0) in
    subst IsFloat (sym (ap (λ (n : ℕ). take n (48 ∷ (b ∷ body))) sum ∙ ap (λ (xs : List ℕ). 48 ∷ (b ∷ xs)) (take-add g (both_len 16 w) body))) f.1)

sixteen_within : (g : ℕ) (w : List ℕ) → 0 < tail_len 16 g w → tail_len 16 g w ≤ length w
unfolding tail_len
sixteen_within g w h = let c = hex_conditions g (fraction_len 16 w) (exponent_len 16 (drop (fraction_len 16 w) w)) h in omega (arith, c.2, both_within 16 w)

one_of : (m n : Number) → ◌≡◌ {A = Option Number} (Some m) (Some n) → m ≡ n
one_of m n e = cc

if_found : (g t i : ℕ) (n : Number) → if_digits g t i ≡ Some n → (0 < g + t) × (n ≡ number_of g g t i)
if_found g t i n e =
    elim (nat_lt 0 (g + t)) as (λ u. nat_lt 0 (g + t) ≡ u → (0 < g + t) × (n ≡ number_of g g t i)) [
      | true ↦ (λ h. (lt_from 0 (g + t) h, sym (one_of (number_of g g t i) n (rw h at e))))
      | false ↦ (λ h. absurd (let no : ◌≡◌ {A = Option Number} None (Some n) = rw h at e in cc))
    ]
    refl

tail_within : (b base g : ℕ) (w : List ℕ) → base_of b ≡ Some base → tail_len base g w ≤ length w
tail_within b base g w e =
    elim (is_zero (tail_len base g w)) [
      | inl none ↦ omega arith
      | inr some ↦ (let is = tail_sixteen b base g w e some in subst (λ (n : ℕ). tail_len n g w ≤ length w) (sym is) (sixteen_within g w (subst (λ (n : ℕ). 0 < tail_len n g w) is some)))
    ]

prefixed_at : (b base : ℕ) (body : List ℕ) (n : Number) → base_of b ≡ Some base → prefixed_number base body ≡ Some n → IsAt (48 ∷ (b ∷ body)) (record { kind = n.kind; len = 2 + n.len })
unfolding prefixed_number
prefixed_at b base body n e is =
    let bytes = 48 ∷ (b ∷ body) in
    let g = more_len base body in
    let w = drop g body in
    let t = tail_len base g w in
    let i = imaginary_len (drop (g + t) body) in
    let found = if_found g t i n is in
    let sum : suc (suc g) + t ≡ suc (suc (g + t)) = omega arith in
    let end : imaginary_len (drop (suc (suc g) + t) bytes) ≡ i = ap (λ (m : ℕ). imaginary_len (drop m bytes)) sum in
    let same : ◌≡◌ {A = Number} (record { kind = n.kind; len = 2 + n.len }) (number_of (suc (suc g)) (suc (suc g)) t (imaginary_len (drop (suc (suc g) + t) bytes))) =
    ap (λ (m : Number). record { kind = m.kind; len = 2 + m.len }) found.1 ∙ moved g t i ∙ ap (number_of (suc (suc g)) (suc (suc g)) t) (sym end) in
    subst (IsAt bytes) (sym same)
    (at_parts bytes (suc (suc g)) (suc (suc g)) t (omega (arith, more_within base body, tail_within b base g w e, length-drop g body)) (omega arith)
    (λ none.
    let goes = more_goes base body (omega (arith, found.0)) in
    let int : IsInteger (take (suc (suc g)) bytes) = prefixed_integer e (behind_stand base body goes) in
    (omega arith, omega (arith, more_within base body), int, integer_multiple int))
    (λ some. float_at b base body e some))

-- the number literal at the start
second_at : (bs : List ℕ) (n : Number) → behind_of (prefix_of (48 ∷ bs)) (drop 1 bs) ≡ Some n → IsAt (48 ∷ bs) (record { kind = n.kind; len = 2 + n.len })
second_at [] n e = absurd (cc)
second_at (b ∷ bs) n e =
    let base = some_base (base_of b) bs n e in
    prefixed_at b base.0 bs n base.1 (ap (λ (o : Option ℕ). behind_of o bs) (sym base.1) ∙ e)

behind_at : (bytes : List ℕ) (n : Number) → behind_of (prefix_of bytes) (drop 2 bytes) ≡ Some n → IsAt bytes (record { kind = n.kind; len = 2 + n.len })
behind_at [] n e = absurd (cc)
behind_at (a ∷ bs) n e =
    elim (a == 48) as (λ u. (a == 48) ≡ u → IsAt (a ∷ bs) (record { kind = n.kind; len = 2 + n.len })) [
      | true ↦ (λ h.
          let is = is_zero_byte a h in
          subst (λ (c : ℕ). IsAt (c ∷ bs) (record { kind = n.kind; len = 2 + n.len })) (sym is) (second_at bs n (subst (λ (c : ℕ). behind_of (prefix_of (c ∷ bs)) (drop 1 bs) ≡ Some n) is e)))
      | false ↦ (λ h. absurd (let no : ◌≡◌ {A = Option Number} None (Some n) = rw h at e in cc))
    ]
    refl

at_either : (bytes : List ℕ) (o : Option Number) → behind_of (prefix_of bytes) (drop 2 bytes) ≡ o → begins_number bytes ≡ true → IsAt bytes (number_at bytes)
at_either bytes None e h = rw (number_plain bytes e) (decimal_at bytes h)
at_either bytes (Some n) e h = rw (number_prefixed bytes n e) (behind_at bytes n e)

pub number_stands : (bytes : List ℕ) → begins_number bytes ≡ true → IsAt bytes (number_at bytes)
number_stands bytes h = at_either bytes (behind_of (prefix_of bytes) (drop 2 bytes)) refl h
