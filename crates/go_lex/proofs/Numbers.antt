-- The longest number literal at the start of some bytes.
use Rattle.std.proofs.Common.{◌≡◌, ◌⊎◌, inl, inr, ℕ, suc, ◌+◌, true, false, ◌||◌, ◌==◌, List, [], ◌∷◌, ◌++◌, length, drop, refl, sym, ap, ◌∙◌, subst, arith, append_assoc, Option, Some, None}
use Rattle.std.proofs.lemmas.Bool.Decides.{nat_tests}
use Rattle.std.proofs.lemmas.List.{append-nil}
use Rattle.go_syntax.specs.declared.token.TokenKind.{TokenKind}
use Rattle.go_syntax.specs.declared.token.TokenKind.TheVariants.{IntLit, FloatLit, ImagLit}
use Rattle.go_syntax.specs.lexical.Numbers.{is_x, base_of, AreBehind, IsExponent, IsInteger, decimal_integer, octal_integer, prefixed_integer, IsMantissa, whole_mantissa, pointed_mantissa, point_first_mantissa, IsFloat, pointed, pointless, point_first, hexadecimal, IsMultiple, digits_multiple, integer_multiple, float_multiple}
use Rattle.go_lex.specs.declared.number.Number.{Number}
use Rattle.go_lex.specs.inner.DigitLengths.{goes_on, more_len}
use Rattle.go_lex.specs.inner.NumberLengths.{is_mark, exponent_len, fraction_len, tail_len, joined_len, imaginary_len, decimal_number, prefix_of, number_at, behind_of, or_plain, IsNumber, int_number, float_number, imaginary_number}
use Rattle.go_lex.proofs.DigitRuns.{more_stop, behind_exact, behind_some, digits_some}
use Rattle.go_lex.proofs.NumberParts.{fraction_tail, exponent_tail, marked_sixteen, exponent_stops, fraction_exact}
use Rattle.go_lex.proofs.NumberClaims.{Claim, BehindClaim, IsDecimal, decimal_digits, decimal_octal, decimal_float, decimal_multiple, decimal_float_multiple, decimal_claim, behind_int, behind_imaginary, IsHex, hex_of, hex_exponent, hex_fraction, behind_float, behind_float_imaginary, octal_digits}

-- a hexadecimal mantissa and its exponent
hex_parts : (ms es : List ℕ) → IsMantissa ms → IsExponent (is_mark 16) es → IsHex (ms ++ es)
hex_parts ms es (whole_mantissa r) e =
    hex_of ms es (hex_exponent e) (λ more. behind_exact 16 ms (es ++ more) r (exponent_stops 16 marked_sixteen es more e)) (λ more. inl (behind_some 16 ms r))
hex_parts ms es (pointed_mantissa {ds = ds} {fs = fs} r f) e =
    subst IsHex (sym (append_assoc ds (46 ∷ fs) es))
    (hex_of ds (46 ∷ (fs ++ es)) (hex_fraction f e) (λ more. behind_exact 16 ds (46 ∷ ((fs ++ es) ++ more)) r refl) (λ more. inl (behind_some 16 ds r)))
hex_parts ms es (point_first_mantissa {fs = fs} r) e =
    hex_of [] (46 ∷ (fs ++ es)) (hex_fraction (inr r) e) (λ more. more_stop 16 (46 ∷ ((fs ++ es) ++ more)) refl)
    (λ more. inr (
    let exact : fraction_len 16 (46 ∷ ((fs ++ es) ++ more)) ≡ suc (length fs) =
    ap (λ (xs : List ℕ). fraction_len 16 (46 ∷ xs)) (append_assoc fs es more) ∙ fraction_exact 16 marked_sixteen fs (es ++ more) (inr r) (exponent_stops 16 marked_sixteen es more e) in
    omega (arith, exact, digits_some 16 fs r)))

-- the letters of prefixes
some_same : (m n : ℕ) → ◌≡◌ {A = Option ℕ} (Some m) (Some n) → m ≡ n
some_same m n e = cc

letter_is : (b c d : ℕ) → (b == c || b == d) ≡ true → (b ≡ c) ⊎ (b ≡ d)
letter_is b c d h = grind (arith, nat_tests)

pub base_cases : (P : ℕ → ℕ → Type 0) (b base : ℕ) → base_of b ≡ Some base → P 120 16 → P 88 16 → P 111 8 → P 79 8 → P 98 2 → P 66 2 → P b base
base_cases P b base e x xx o oo t tt' =
    elim (is_x b) as (λ u. is_x b ≡ u → P b base) [
      | true ↦ (λ h.
          let is : 16 ≡ base = some_same 16 base (rw h at e) in
          elim (letter_is b 120 88 h) [ inl f ↦ subst (λ (p : ℕ × ℕ). P p.0 p.1) (λ i. (sym f i, is i)) x | inr f ↦ subst (λ (p : ℕ × ℕ). P p.0 p.1) (λ i. (sym f i, is i)) xx ])
      | false ↦ (λ h. elim (b == 111 || b == 79) as (λ u. (b == 111 || b == 79) ≡ u → P b base) [
        | true ↦ (λ g.
            let is : 8 ≡ base = some_same 8 base (rw (h, g) at e) in
            elim (letter_is b 111 79 g) [ inl f ↦ subst (λ (p : ℕ × ℕ). P p.0 p.1) (λ i. (sym f i, is i)) o | inr f ↦ subst (λ (p : ℕ × ℕ). P p.0 p.1) (λ i. (sym f i, is i)) oo ])
        | false ↦ (λ g. elim (b == 98 || b == 66) as (λ u. (b == 98 || b == 66) ≡ u → P b base) [
          | true ↦ (λ k.
              let is : 2 ≡ base = some_same 2 base (rw (h, g, k) at e) in
              elim (letter_is b 98 66 k) [ inl f ↦ subst (λ (p : ℕ × ℕ). P p.0 p.1) (λ i. (sym f i, is i)) t | inr f ↦ subst (λ (p : ℕ × ℕ). P p.0 p.1) (λ i. (sym f i, is i)) tt' ])
          | false ↦ (λ k. absurd (let no : ◌≡◌ {A = Option ℕ} None (Some base) = rw (h, g, k) at e in cc))
        ] refl)
      ] refl)
    ]
    refl

end_stops : (b base : ℕ) (more : List ℕ) → base_of b ≡ Some base → goes_on base (105 ∷ more) ≡ false
end_stops b base more e = base_cases (λ _ n. goes_on n (105 ∷ more) ≡ false) b base e refl refl refl refl refl refl

sixteen_ends : (g f : ℕ) (more : List ℕ) → joined_len 16 g f 0 ≡ 0
sixteen_ends g f more = refl

hex_ends : (g : ℕ) (more : List ℕ) → tail_len 16 g (105 ∷ more) ≡ 0
unfolding tail_len fraction_len exponent_len
hex_ends g more = refl

other_ends : (base g : ℕ) (more : List ℕ) → (base == 10) ≡ false → (base == 16) ≡ false → tail_len base g (105 ∷ more) ≡ 0
unfolding tail_len
other_ends base g more e f = rw (e, f) refl

end_no_tail : (b base g : ℕ) (more : List ℕ) → base_of b ≡ Some base → tail_len base g (105 ∷ more) ≡ 0
end_no_tail b base g more e =
    base_cases (λ _ n. tail_len n g (105 ∷ more) ≡ 0) b base e (hex_ends g more) (hex_ends g more) (other_ends 8 g more refl refl) (other_ends 8 g more refl refl) (other_ends 2 g more refl refl) (other_ends 2 g more refl refl)

behind_multiple : (b base : ℕ) (gs more : List ℕ) → base_of b ≡ Some base → AreBehind base gs → BehindClaim base ImagLit (gs ++ (105 ∷ [])) more
behind_multiple b base gs more e r =
    subst (λ (xs : List ℕ). BehindClaim base ImagLit (xs ++ (105 ∷ [])) more) (append-nil gs)
    (behind_imaginary base gs [] more (behind_exact base gs (105 ∷ more) r (end_stops b base more e)) (end_no_tail b base (length gs) more e) (omega (arith, behind_some base gs r)))

-- a literal without or with a prefix
data IsCandidate : TokenKind → List ℕ → Type 0 where
  plain_candidate : {kind : TokenKind} {text : List ℕ} → IsDecimal kind text → IsCandidate kind text
  prefixed_candidate : {kind : TokenKind} {rest : List ℕ} {b base : ℕ} → base_of b ≡ Some base → ((more : List ℕ) → BehindClaim base kind rest more) → IsCandidate kind (48 ∷ (b ∷ rest))

x_base : (x : ℕ) → is_x x ≡ true → base_of x ≡ Some 16
x_base x h = rw h refl

candidate_integer : (text : List ℕ) → IsInteger text → IsCandidate IntLit text
candidate_integer text (decimal_integer h r) = plain_candidate (decimal_digits h r)
candidate_integer text (octal_integer r) = plain_candidate (decimal_octal r)
candidate_integer text (prefixed_integer {base = base} {ds = ds} e r) = prefixed_candidate e (λ more. behind_int base ds more r)

candidate_float : (text : List ℕ) → IsFloat text → IsCandidate FloatLit text
candidate_float text (pointed r f e) = plain_candidate (decimal_float (inr r) (fraction_tail f e))
candidate_float text (pointless r e) = plain_candidate (decimal_float (inr r) (exponent_tail e))
candidate_float text (point_first r e) = plain_candidate (decimal_float {ds = []} (inl refl) (fraction_tail (inr r) e))
candidate_float text (hexadecimal {x = x} {ms = ms} {es = es} h m e) = prefixed_candidate (x_base x h) (λ more. behind_float (ms ++ es) more (hex_parts ms es m e))

multiple_of : (text : List ℕ) → IsInteger text → IsCandidate ImagLit (text ++ (105 ∷ []))
multiple_of text (decimal_integer h r) = plain_candidate (decimal_multiple r)
multiple_of text (octal_integer {ds = ds} r) = plain_candidate (decimal_multiple (octal_digits (48 ∷ ds) r))
multiple_of text (prefixed_integer {b = b} {base = base} {ds = ds} e r) = prefixed_candidate e (λ more. behind_multiple b base ds more e r)

float_of : (text : List ℕ) → IsFloat text → IsCandidate ImagLit (text ++ (105 ∷ []))
float_of text (pointed r f e) = plain_candidate (decimal_float_multiple (inr r) (fraction_tail f e))
float_of text (pointless r e) = plain_candidate (decimal_float_multiple (inr r) (exponent_tail e))
float_of text (point_first r e) = plain_candidate (decimal_float_multiple {ds = []} (inl refl) (fraction_tail (inr r) e))
float_of text (hexadecimal {x = x} {ms = ms} {es = es} h m e) = prefixed_candidate (x_base x h) (λ more. behind_float_imaginary (ms ++ es) more (hex_parts ms es m e))

candidate_multiple : (text : List ℕ) → IsMultiple text → IsCandidate ImagLit (text ++ (105 ∷ []))
candidate_multiple text (digits_multiple r) = plain_candidate (decimal_multiple r)
candidate_multiple text (integer_multiple i) = multiple_of text i
candidate_multiple text (float_multiple f) = float_of text f

candidate : (kind : TokenKind) (text : List ℕ) → IsNumber kind text → IsCandidate kind text
candidate kind text (int_number i) = candidate_integer text i
candidate kind text (float_number f) = candidate_float text f
candidate kind text (imaginary_number {text = t} m) = candidate_multiple t m

-- the first bytes of a prefix leave the decimal literal `0`
zero_alone : (b base : ℕ) (bs : List ℕ) → base_of b ≡ Some base → decimal_number (48 ∷ (b ∷ bs)) ≡ record { kind = IntLit; len = 1 }
unfolding decimal_number more_len tail_len fraction_len exponent_len imaginary_len
zero_alone b base bs e = base_cases (λ c _. decimal_number (48 ∷ (c ∷ bs)) ≡ record { kind = IntLit; len = 1 }) b base e refl refl refl refl refl refl

is_zero_byte : (a : ℕ) → (a == 48) ≡ true → a ≡ 48
is_zero_byte a h = grind (arith, nat_tests)

second_alone : (bs : List ℕ) (base : ℕ) → prefix_of (48 ∷ bs) ≡ Some base → decimal_number (48 ∷ bs) ≡ record { kind = IntLit; len = 1 }
second_alone [] base e = absurd (cc)
second_alone (b ∷ bs) base e = zero_alone b base bs e

prefix_alone : (bytes : List ℕ) (base : ℕ) → prefix_of bytes ≡ Some base → decimal_number bytes ≡ record { kind = IntLit; len = 1 }
prefix_alone [] base e = absurd (cc)
prefix_alone (a ∷ bs) base e =
    elim (a == 48) as (λ u. (a == 48) ≡ u → decimal_number (a ∷ bs) ≡ record { kind = IntLit; len = 1 }) [
      | true ↦ (λ h. subst (λ (c : ℕ). decimal_number (c ∷ bs) ≡ record { kind = IntLit; len = 1 }) (sym (is_zero_byte a h)) (second_alone bs base (rw h at e)))
      | false ↦ (λ h. absurd (let no : ◌≡◌ {A = Option ℕ} None (Some base) = rw h at e in cc))
    ]
    refl

pub number_plain : (bytes : List ℕ) → behind_of (prefix_of bytes) (drop 2 bytes) ≡ None → number_at bytes ≡ decimal_number bytes
unfolding number_at
number_plain bytes e = ap (λ (o : Option Number). or_plain o (decimal_number bytes)) e

pub number_prefixed : (bytes : List ℕ) (n : Number) → behind_of (prefix_of bytes) (drop 2 bytes) ≡ Some n → number_at bytes ≡ record { kind = n.kind; len = 2 + n.len }
unfolding number_at
number_prefixed bytes n e = ap (λ (o : Option Number). or_plain o (decimal_number bytes)) e

pub some_base : (o : Option ℕ) (bs : List ℕ) (n : Number) → behind_of o bs ≡ Some n → (base : ℕ) × (o ≡ Some base)
some_base None bs n e = absurd (cc)
some_base (Some base) bs n e = (base, refl)

shorter_claim : (kind : TokenKind) (text : List ℕ) (d n : Number) → Claim kind text d → d ≡ record { kind = IntLit; len = 1 } → Claim kind text (record { kind = n.kind; len = 2 + n.len })
shorter_claim kind text d n c e =
    let one : d.len ≡ 1 = ap (λ (m : Number). m.len) e in
    record { bound = omega (arith, c.bound); same = λ s. absurd (omega (arith, c.bound)) }

plain_claim : (kind : TokenKind) (text more : List ℕ) (o : Option Number) → behind_of (prefix_of (text ++ more)) (drop 2 (text ++ more)) ≡ o → IsDecimal kind text → Claim kind text (number_at (text ++ more))
plain_claim kind text more None e d = rw (number_plain (text ++ more) e) (decimal_claim kind text more d)
plain_claim kind text more (Some n) e d =
    let base = some_base (prefix_of (text ++ more)) (drop 2 (text ++ more)) n e in
    rw (number_prefixed (text ++ more) n e)
    (shorter_claim kind text (decimal_number (text ++ more)) n (decimal_claim kind text more d) (prefix_alone (text ++ more) base.0 base.1))

prefixed_claim : (kind : TokenKind) (b base : ℕ) (rest more : List ℕ) → base_of b ≡ Some base → BehindClaim base kind rest more → Claim kind (48 ∷ (b ∷ rest)) (number_at (48 ∷ (b ∷ (rest ++ more))))
prefixed_claim kind b base rest more e c =
    let here : behind_of (prefix_of (48 ∷ (b ∷ (rest ++ more)))) (drop 2 (48 ∷ (b ∷ (rest ++ more)))) ≡ Some c.0 = ap (λ (o : Option ℕ). behind_of o (rest ++ more)) e ∙ c.1 in
    rw (number_prefixed (48 ∷ (b ∷ (rest ++ more))) c.0 here)
    (record { bound = omega (arith, c.2.bound); same = λ s. c.2.same (omega arith) })

candidate_claim : (kind : TokenKind) (text more : List ℕ) → IsCandidate kind text → Claim kind text (number_at (text ++ more))
candidate_claim kind text more (plain_candidate d) = plain_claim kind text more (behind_of (prefix_of (text ++ more)) (drop 2 (text ++ more))) refl d
candidate_claim kind text more (prefixed_candidate {rest = rest} {b = b} {base = base} e c) = prefixed_claim kind b base rest more e (c more)

pub number_claim : (kind : TokenKind) (text more : List ℕ) → IsNumber kind text → Claim kind text (number_at (text ++ more))
number_claim kind text more is = candidate_claim kind text more (candidate kind text is)
