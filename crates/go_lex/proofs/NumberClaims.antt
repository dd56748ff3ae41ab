-- Number literals at the start of some bytes are no longer than what the parts' lengths say.
use Rattle.std.proofs.Common.{◌≡◌, ◌⊎◌, inl, inr, ℕ, zero, suc, ◌+◌, ◌<◌, ◌≤◌, Bool, true, false, ◌||◌, ◌==◌, List, [], ◌∷◌, ◌++◌, length, drop, refl, sym, ap, ◌∙◌, subst, arith, length-append, append_assoc, Some, nat_lt}
use Rattle.std.proofs.lemmas.Bool.Decides.{nat_tests}
use Rattle.std.proofs.lemmas.List.{drop_at, append-nil}
use Rattle.go_syntax.specs.declared.token.TokenKind.{TokenKind}
use Rattle.go_syntax.specs.declared.token.TokenKind.TheVariants.{IntLit, FloatLit, ImagLit}
use Rattle.go_syntax.specs.lexical.Numbers.{is_digit_of, is_first_digit, AreDigits, one_digit, digit_more, digit_apart, AreBehind, Optional, IsExponent}
use Rattle.go_lex.specs.declared.number.Number.{Number}
use Rattle.go_lex.specs.inner.DigitLengths.{more_len, digits_len}
use Rattle.go_lex.specs.inner.NumberLengths.{is_mark, exponent_len, fraction_len, tail_len, joined_len, imaginary_len, number_kind, number_of, integer_len, decimal_number, prefixed_number, if_digits}
use Rattle.go_lex.proofs.DigitRuns.{digits_bound, behind_bound, behind_some}
use Rattle.go_lex.proofs.NumberParts.{all_digits, some_exact, exponent_bound, exponent_some, imaginary_here, both_len, IsTail, fraction_tail, exponent_tail, marked_ten, marked_sixteen, exponent_stops, exponent_no_fraction, tail_stops, tail_some, tail_bound, tail_exact, no_tail, fraction_exact}

-- a text of this kind is no longer than the literal, and one as long is of the same kind
pub record Claim (kind : TokenKind) (text : List ℕ) (n : Number) : Type 0 where
  pub bound : length text ≤ n.len
  pub same : length text ≡ n.len → kind ≡ n.kind

pub lt_true : (a b : ℕ) → a < b → nat_lt a b ≡ true
lt_true a b h = grind (arith, nat_tests)

lt_false : (a b : ℕ) → b ≤ a → nat_lt a b ≡ false
lt_false a b h = grind (arith, nat_tests)

pub len_of_some : (int d t i : ℕ) → 0 < t + i → (number_of int d t i).len ≡ d + t + i
len_of_some int d t i h = rw (lt_true 0 (t + i) h) refl

pub len_of_int : (int d t i : ℕ) → t + i ≡ 0 → (number_of int d t i).len ≡ int
len_of_int int d t i h = rw (lt_false 0 (t + i) (omega arith)) refl

pub kind_imaginary : (t i : ℕ) → 0 < i → number_kind t i ≡ ImagLit
kind_imaginary t i h = rw (lt_true 0 i h) refl

pub kind_float : (t i : ℕ) → i ≡ 0 → 0 < t → number_kind t i ≡ FloatLit
kind_float t i e h = rw (lt_false 0 i (omega arith), lt_true 0 t h) refl

pub kind_int : (t i : ℕ) → i ≡ 0 → t ≡ 0 → number_kind t i ≡ IntLit
kind_int t i e f = rw (lt_false 0 i (omega arith), lt_false 0 t (omega arith)) refl

pub is_zero : (n : ℕ) → (n ≡ 0) ⊎ (0 < n)
is_zero zero = inl refl
is_zero (suc n) = inr (omega arith)

claim_int : (text : List ℕ) (int d t i : ℕ) → length text ≤ d → length text ≤ int → Claim IntLit text (number_of int d t i)
claim_int text int d t i h g =
    elim (is_zero (t + i)) [
      | inl e ↦ record { bound = omega (arith, len_of_int int d t i e); same = λ _. sym (kind_int t i (omega arith) (omega arith)) }
      | inr e ↦ record { bound = omega (arith, len_of_some int d t i e); same = λ s. absurd (omega (arith, s, len_of_some int d t i e)) }
    ]

claim_float : (text : List ℕ) (int d t i : ℕ) → length text ≤ d + t → 0 < t → Claim FloatLit text (number_of int d t i)
claim_float text int d t i h some = record {
  bound = omega (arith, len_of_some int d t i (omega arith));
  same = λ s. sym (kind_float t i (omega (arith, s, len_of_some int d t i (omega arith))) some);
}

claim_imaginary : (text : List ℕ) (int d t i : ℕ) → length text ≡ d + t + 1 → i ≡ 1 → Claim ImagLit text (number_of int d t i)
claim_imaginary text int d t i h e = record {
  bound = omega (arith, len_of_some int d t i (omega arith));
  same = λ _. sym (kind_imaginary t i (omega arith));
}

-- decimal literals
pub tail_ten : (d : ℕ) (w : List ℕ) → tail_len 10 d w ≡ both_len 10 w
unfolding tail_len
tail_ten d w = refl

pub decimal_is : (bytes : List ℕ) (d : ℕ) → digits_len 10 bytes ≡ d
    → decimal_number bytes ≡ number_of (integer_len bytes) d (both_len 10 (drop d bytes)) (imaginary_len (drop (d + both_len 10 (drop d bytes)) bytes))
unfolding decimal_number
decimal_is bytes d e =
    subst (λ (n : ℕ). decimal_number bytes ≡ number_of (integer_len bytes) n (both_len 10 (drop n bytes)) (imaginary_len (drop (n + both_len 10 (drop n bytes)) bytes))) e
    (ap (λ (t : ℕ). number_of (integer_len bytes) (digits_len 10 bytes) t (imaginary_len (drop (digits_len 10 bytes + t) bytes))) (tail_ten (digits_len 10 bytes) (drop (digits_len 10 bytes) bytes)))

decimal_behind : (ds w : List ℕ) → digits_len 10 (ds ++ w) ≡ length ds
    → decimal_number (ds ++ w) ≡ number_of (integer_len (ds ++ w)) (length ds) (both_len 10 w) (imaginary_len (drop (length ds + both_len 10 w) (ds ++ w)))
decimal_behind ds w e =
    decimal_is (ds ++ w) (length ds) e
    ∙ ap (λ (xs : List ℕ). number_of (integer_len (ds ++ w)) (length ds) (both_len 10 xs) (imaginary_len (drop (length ds + both_len 10 xs) (ds ++ w)))) (drop_at ds w (length ds) refl)

float_claim : (ds ts more : List ℕ) → Optional (AreDigits 10) ds → IsTail 10 ts → Claim FloatLit (ds ++ ts) (decimal_number ((ds ++ ts) ++ more))
float_claim ds ts more o tail =
    let exact = some_exact 10 ds (ts ++ more) o (tail_stops 10 marked_ten ts more tail) in
    rw (append_assoc ds ts more, decimal_behind ds (ts ++ more) exact)
    (claim_float (ds ++ ts) _ (length ds) (both_len 10 (ts ++ more)) _ (omega (arith, length-append ds ts, tail_bound 10 marked_ten ts more tail))
    (omega (arith, tail_some 10 marked_ten ts tail, tail_bound 10 marked_ten ts more tail)))

imaginary_claim : (ds ts more : List ℕ) → digits_len 10 (ds ++ (ts ++ (105 ∷ more))) ≡ length ds → both_len 10 (ts ++ (105 ∷ more)) ≡ length ts
    → Claim ImagLit ((ds ++ ts) ++ (105 ∷ [])) (decimal_number (((ds ++ ts) ++ (105 ∷ [])) ++ more))
imaginary_claim ds ts more exact tail =
    let w = ts ++ (105 ∷ more) in
    let size : length (ds ++ ts) ≡ length ds + both_len 10 w = omega (arith, length-append ds ts) in
    let end : imaginary_len (drop (length ds + both_len 10 w) (ds ++ w)) ≡ 1 =
    ap (λ (xs : List ℕ). imaginary_len (drop (length ds + both_len 10 w) xs)) (sym (append_assoc ds ts (105 ∷ more)))
    ∙ ap imaginary_len (drop_at (ds ++ ts) (105 ∷ more) (length ds + both_len 10 w) size)
    ∙ imaginary_here more in
    rw (append_assoc (ds ++ ts) (105 ∷ []) more, append_assoc ds ts (105 ∷ more), decimal_behind ds w exact)
    (claim_imaginary ((ds ++ ts) ++ (105 ∷ [])) _ (length ds) (both_len 10 w) _ (omega (arith, length-append (ds ++ ts) (105 ∷ []), size)) end)

float_imaginary : (ds ts more : List ℕ) → Optional (AreDigits 10) ds → IsTail 10 ts → Claim ImagLit ((ds ++ ts) ++ (105 ∷ [])) (decimal_number (((ds ++ ts) ++ (105 ∷ [])) ++ more))
float_imaginary ds ts more o tail =
    imaginary_claim ds ts more (some_exact 10 ds (ts ++ (105 ∷ more)) o (tail_stops 10 marked_ten ts (105 ∷ more) tail)) (tail_exact 10 marked_ten ts more tail)

digits_imaginary : (ds more : List ℕ) → AreDigits 10 ds → Claim ImagLit (ds ++ (105 ∷ [])) (decimal_number ((ds ++ (105 ∷ [])) ++ more))
digits_imaginary ds more r =
    subst (λ (xs : List ℕ). Claim ImagLit (xs ++ (105 ∷ [])) (decimal_number ((xs ++ (105 ∷ [])) ++ more))) (append-nil ds)
    (imaginary_claim ds [] more (some_exact 10 ds (105 ∷ more) (inr r) refl) (no_tail 10 marked_ten more))

octal_digit : (d : ℕ) → is_digit_of 8 d ≡ true → is_digit_of 10 d ≡ true
octal_digit d h = grind (arith, nat_tests)

pub octal_digits : (ds : List ℕ) → AreDigits 8 ds → AreDigits 10 ds
octal_digits ds (one_digit {d = d} h) = one_digit (octal_digit d h)
octal_digits ds (digit_more {d = d} {ds = es} h r) = digit_more (octal_digit d h) (octal_digits es r)
octal_digits ds (digit_apart {d = d} {ds = es} h r) = digit_apart (octal_digit d h) (octal_digits es r)

digits_claim : (text more : List ℕ) → AreDigits 10 text → length text ≤ integer_len (text ++ more) → Claim IntLit text (decimal_number (text ++ more))
digits_claim text more r int =
    rw (decimal_is (text ++ more) (digits_len 10 (text ++ more)) refl)
    (claim_int text (integer_len (text ++ more)) (digits_len 10 (text ++ more)) _ _ (omega (arith, all_digits 10 text more r, digits_bound 10 text more r)) int)

first_no_zero : (d : ℕ) → is_first_digit d ≡ true → (d == 48) ≡ false
first_no_zero d h = grind (arith, nat_tests)

integer_ten : (d : ℕ) (bs : List ℕ) → is_first_digit d ≡ true → integer_len (d ∷ bs) ≡ digits_len 10 (d ∷ bs)
integer_ten d bs h = rw (first_no_zero d h) refl

-- the decimal literals: digits alone, or with fraction, exponent or `i`
pub data IsDecimal : TokenKind → List ℕ → Type 0 where
  decimal_digits : {d : ℕ} {ds : List ℕ} → is_first_digit d ≡ true → AreDigits 10 (d ∷ ds) → IsDecimal IntLit (d ∷ ds)
  decimal_octal : {ds : List ℕ} → AreDigits 8 (48 ∷ ds) → IsDecimal IntLit (48 ∷ ds)
  decimal_float : {ds ts : List ℕ} → Optional (AreDigits 10) ds → IsTail 10 ts → IsDecimal FloatLit (ds ++ ts)
  decimal_multiple : {ds : List ℕ} → AreDigits 10 ds → IsDecimal ImagLit (ds ++ (105 ∷ []))
  decimal_float_multiple : {ds ts : List ℕ} → Optional (AreDigits 10) ds → IsTail 10 ts → IsDecimal ImagLit ((ds ++ ts) ++ (105 ∷ []))

pub decimal_claim : (kind : TokenKind) (text more : List ℕ) → IsDecimal kind text → Claim kind text (decimal_number (text ++ more))
decimal_claim kind text more (decimal_digits {d = d} {ds = ds} h r) =
    digits_claim text more r (omega (arith, integer_ten d (ds ++ more) h, all_digits 10 text more r, digits_bound 10 text more r))
decimal_claim kind text more (decimal_octal {ds = ds} r) = digits_claim text more (octal_digits text r) (omega (arith, all_digits 8 text more r, digits_bound 8 text more r))
decimal_claim kind text more (decimal_float {ds = ds} {ts = ts} o t) = float_claim ds ts more o t
decimal_claim kind text more (decimal_multiple {ds = ds} r) = digits_imaginary ds more r
decimal_claim kind text more (decimal_float_multiple {ds = ds} {ts = ts} o t) = float_imaginary ds ts more o t

-- literals behind a prefix
if_some : (g t i : ℕ) → 0 < g + t → if_digits g t i ≡ Some (number_of g g t i)
if_some g t i h = rw (lt_true 0 (g + t) h) refl

-- a text behind a prefix is no longer than the literal there
abbrev pub BehindClaim : ℕ → TokenKind → List ℕ → List ℕ → Type 0
BehindClaim base kind text more = (n : Number) × (prefixed_number base (text ++ more) ≡ Some n) × Claim kind text n

pub prefixed_is : (base : ℕ) (bytes : List ℕ) (g t : ℕ) → more_len base bytes ≡ g → tail_len base g (drop g bytes) ≡ t → 0 < g + t
    → prefixed_number base bytes ≡ Some (number_of g g t (imaginary_len (drop (g + t) bytes)))
unfolding prefixed_number
prefixed_is base bytes g t e f some =
    subst (λ (p : ℕ × ℕ). if_digits (more_len base bytes) (tail_len base (more_len base bytes) (drop (more_len base bytes) bytes))
    (imaginary_len (drop (more_len base bytes + tail_len base (more_len base bytes) (drop (more_len base bytes) bytes)) bytes))
    ≡ if_digits p.0 p.1 (imaginary_len (drop (p.0 + p.1) bytes)))
    (λ i. (e i, (ap (λ (n : ℕ). tail_len base n (drop n bytes)) e ∙ f) i))
    refl
    ∙ if_some g t (imaginary_len (drop (g + t) bytes)) some

pub behind_int : (base : ℕ) (gs more : List ℕ) → AreBehind base gs → BehindClaim base IntLit gs more
behind_int base gs more r =
    let g = more_len base (gs ++ more) in
    let t = tail_len base g (drop g (gs ++ more)) in
    let bound = behind_bound base gs more r in (
      number_of g g t (imaginary_len (drop (g + t) (gs ++ more))),
      prefixed_is base (gs ++ more) g t refl refl (omega (arith, behind_some base gs r, bound)),
      claim_int gs g g t _ bound bound,
    )

pub behind_imaginary : (base : ℕ) (gs ts more : List ℕ) → more_len base (gs ++ (ts ++ (105 ∷ more))) ≡ length gs → tail_len base (length gs) (ts ++ (105 ∷ more)) ≡ length ts → 0 < length gs + length ts
    → BehindClaim base ImagLit ((gs ++ ts) ++ (105 ∷ [])) more
behind_imaginary base gs ts more exact tail some =
    let w = ts ++ (105 ∷ more) in
    let bytes_are : ((gs ++ ts) ++ (105 ∷ [])) ++ more ≡ gs ++ w = append_assoc (gs ++ ts) (105 ∷ []) more ∙ append_assoc gs ts (105 ∷ more) in
    let t_is : tail_len base (length gs) (drop (length gs) (gs ++ w)) ≡ length ts = ap (tail_len base (length gs)) (drop_at gs w (length gs) refl) ∙ tail in
    let end : imaginary_len (drop (length gs + length ts) (gs ++ w)) ≡ 1 =
    ap (λ (xs : List ℕ). imaginary_len (drop (length gs + length ts) xs)) (sym (append_assoc gs ts (105 ∷ more)))
    ∙ ap imaginary_len (drop_at (gs ++ ts) (105 ∷ more) (length gs + length ts) (length-append gs ts))
    ∙ imaginary_here more in (
      number_of (length gs) (length gs) (length ts) (imaginary_len (drop (length gs + length ts) (gs ++ w))),
      ap (prefixed_number base) bytes_are ∙ prefixed_is base (gs ++ w) (length gs) (length ts) exact t_is some,
      claim_imaginary ((gs ++ ts) ++ (105 ∷ [])) _ (length gs) (length ts) _ (omega (arith, length-append (gs ++ ts) (105 ∷ []), length-append gs ts)) end,
    )

or_true : (a : Bool) → (a || true) ≡ true
or_true true = refl
or_true false = refl

-- fraction and exponent of a hexadecimal literal
pub data IsHexTail : List ℕ → Type 0 where
  hex_exponent : {es : List ℕ} → IsExponent (is_mark 16) es → IsHexTail es
  hex_fraction : {fs es : List ℕ} → Optional (AreDigits 16) fs → IsExponent (is_mark 16) es → IsHexTail (46 ∷ (fs ++ es))

hex_tail : (ts : List ℕ) → IsHexTail ts → IsTail 16 ts
hex_tail ts (hex_exponent e) = exponent_tail e
hex_tail ts (hex_fraction f e) = fraction_tail f (inr e)

hex_joined : (g f e : ℕ) → 0 < e → (0 < g) ⊎ (1 < f) → joined_len 16 g f e ≡ f + e
hex_joined g f e h o = elim o [ inl a ↦ rw (lt_true 0 e h, lt_true 0 g a) refl | inr b ↦ rw (lt_true 0 e h, lt_true 1 f b, or_true (nat_lt 0 g)) refl ]

hex_both : (g : ℕ) (ts more : List ℕ) → IsHexTail ts → (0 < g) ⊎ (1 < fraction_len 16 (ts ++ more)) → tail_len 16 g (ts ++ more) ≡ both_len 16 (ts ++ more)
unfolding tail_len
hex_both g ts more (hex_exponent e) o =
    let some : 0 < exponent_len 16 (drop (fraction_len 16 (ts ++ more)) (ts ++ more)) =
    subst (λ (n : ℕ). 0 < exponent_len 16 (drop n (ts ++ more))) (sym (exponent_no_fraction 16 marked_sixteen ts more e)) (omega (arith, exponent_bound 16 ts more e, exponent_some 16 ts e)) in
    hex_joined g _ _ some o
hex_both g ts more (hex_fraction {fs = fs} {es = es} f e) o =
    let exact : fraction_len 16 (46 ∷ (fs ++ (es ++ more))) ≡ suc (length fs) = fraction_exact 16 marked_sixteen fs (es ++ more) f (exponent_stops 16 marked_sixteen es more e) in
    let here : fraction_len 16 (ts ++ more) ≡ suc (length fs) = ap (λ (xs : List ℕ). fraction_len 16 (46 ∷ xs)) (append_assoc fs es more) ∙ exact in
    let rest : drop (fraction_len 16 (ts ++ more)) (ts ++ more) ≡ es ++ more =
    ap (λ (n : ℕ). drop n (ts ++ more)) here ∙ ap (λ (xs : List ℕ). drop (length fs) xs) (append_assoc fs es more) ∙ drop_at fs (es ++ more) (length fs) refl in
    let some : 0 < exponent_len 16 (drop (fraction_len 16 (ts ++ more)) (ts ++ more)) =
    subst (λ (xs : List ℕ). 0 < exponent_len 16 xs) (sym rest) (omega (arith, exponent_bound 16 es more e, exponent_some 16 es e)) in
    hex_joined g _ _ some o

-- the digits of a mantissa, if any, and what follows them
pub data IsHex : List ℕ → Type 0 where
  hex_of : (gs ts : List ℕ) → IsHexTail ts → ((more : List ℕ) → more_len 16 (gs ++ (ts ++ more)) ≡ length gs) → ((more : List ℕ) → (0 < length gs) ⊎ (1 < fraction_len 16 (ts ++ more))) → IsHex (gs ++ ts)

pub behind_float : (text more : List ℕ) → IsHex text → BehindClaim 16 FloatLit text more
behind_float text more (hex_of gs ts h exact digits) =
    let w = ts ++ more in
    let tail = hex_tail ts h in
    let t_is : tail_len 16 (length gs) (drop (length gs) (gs ++ w)) ≡ both_len 16 w = ap (tail_len 16 (length gs)) (drop_at gs w (length gs) refl) ∙ hex_both (length gs) ts more h (digits more) in
    let bound = tail_bound 16 marked_sixteen ts more tail in
    let some : 0 < both_len 16 w = omega (arith, bound, tail_some 16 marked_sixteen ts tail) in (
      number_of (length gs) (length gs) (both_len 16 w) (imaginary_len (drop (length gs + both_len 16 w) (gs ++ w))),
      ap (prefixed_number 16) (append_assoc gs ts more) ∙ prefixed_is 16 (gs ++ w) (length gs) (both_len 16 w) (exact more) t_is (omega arith),
      claim_float (gs ++ ts) _ (length gs) (both_len 16 w) _ (omega (arith, length-append gs ts, bound)) some,
    )

pub behind_float_imaginary : (text more : List ℕ) → IsHex text → BehindClaim 16 ImagLit (text ++ (105 ∷ [])) more
behind_float_imaginary text more (hex_of gs ts h exact digits) =
    let tail = hex_tail ts h in
    behind_imaginary 16 gs ts more (exact (105 ∷ more)) (hex_both (length gs) ts (105 ∷ more) h (digits (105 ∷ more)) ∙ tail_exact 16 marked_sixteen ts more tail)
    (omega (arith, tail_some 16 marked_sixteen ts tail))
