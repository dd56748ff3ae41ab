-- Which lexemes may stand at the start of some bytes, by the class that their first bytes tell.
use Rattle.std.proofs.Common.{◌≡◌, ◌⊎◌, inl, inr, ℕ, ◌<◌, ◌≤◌, Bool, true, false, ◌||◌, ◌&&◌, ◌==◌, not, List, [], ◌∷◌, ◌++◌, length, refl, sym, ap, ◌∙◌, subst, arith, length-append, append_assoc, Some, nat_lt, if◌then◌else◌}
use Rattle.std.specs.List.{list_all}
use Rattle.std.specs.Char.{encode_utf8}
use Rattle.std.proofs.lemmas.Bool.Decides.{nat_tests}
use Rattle.std.proofs.lemmas.Str.{char_from_byte, length-encode, len_utf8_bounds}
use Rattle.go_syntax.specs.declared.token.Meaning.{Meaning}
use Rattle.go_syntax.specs.declared.token.TokenKind.{TokenKind}
use Rattle.go_syntax.specs.declared.token.TokenKind.TheVariants as token
use Rattle.go_syntax.specs.declared.token.TokenValue.{TokenValue}
use Rattle.go_syntax.specs.declared.token.TokenValue.TheVariants as value
use Rattle.go_syntax.specs.declared.token.LexemeKind.{LexemeKind}
use Rattle.go_syntax.specs.declared.token.LexemeKind.TheVariants as lexeme
use Rattle.go_base.specs.Characters.{is_letter}
use Rattle.go_base.specs.Comments.{is_text}
use Rattle.go_syntax.specs.lexical.Numbers.{is_digit_of, AreDigits, one_digit, digit_more, digit_apart, IsInteger, decimal_integer, octal_integer, prefixed_integer, IsFloat, pointed, pointless, point_first, hexadecimal, IsMultiple, digits_multiple, integer_multiple, float_multiple}
use Rattle.go_syntax.specs.lexical.Quotes.{meaning_number, IsCharacter, AreCharacters, raw_bytes}
use Rattle.go_syntax.specs.lexical.Words.{kind_in, operators, operators_of_three, operators_of_two, operators_of_one, name_kind}
use Rattle.go_syntax.specs.lexical.Lexemes.{is_space_in_line, plain_value, quoted, opens_comment, IsLexeme, blank, newline, name, operator, integer, float, imaginary, rune, string, raw_string}
use Rattle.go_lex.specs.declared.longest.Start.{Start}
use Rattle.go_lex.specs.declared.longest.Start.TheVariants.{Blank, Newline, Comment, Number, Rune, Quoted, Raw, Name, Sign}
use Rattle.go_lex.specs.inner.DigitLengths.{begins_digit}
use Rattle.go_lex.specs.inner.Starts.{begins_byte, is_name_start, start_of_byte, start_of, begins_number}
use Rattle.go_lex.specs.inner.NumberLengths.{IsNumber, int_number, float_number, imaginary_number}
use Rattle.go_lex.specs.inner.NamePrefixes.{IsName}
use Rattle.go_lex.proofs.DigitRuns.{digits_first}
use Rattle.go_lex.proofs.OperatorRows.{in_table}
use Rattle.go_lex.proofs.Ascii.{ascii_letter}

-- number literals
digits_begin : (ds more : List ℕ) → AreDigits 10 ds → begins_number (ds ++ more) ≡ true
digits_begin ds more (one_digit h) = rw h refl
digits_begin ds more (digit_more h r) = rw h refl
digits_begin ds more (digit_apart h r) = rw h refl

integer_begins : (text more : List ℕ) → IsInteger text → begins_number (text ++ more) ≡ true
integer_begins text more (decimal_integer {d = d} {ds = ds} h r) = digits_begin (d ∷ ds) more r
integer_begins text more (octal_integer r) = refl
integer_begins text more (prefixed_integer e r) = refl

float_begins : (text more : List ℕ) → IsFloat text → begins_number (text ++ more) ≡ true
float_begins text more (pointed {ds = ds} {fs = fs} {es = es} r f e) = rw (append_assoc ds (46 ∷ (fs ++ es)) more) (digits_begin ds ((46 ∷ (fs ++ es)) ++ more) r)
float_begins text more (pointless {ds = ds} {es = es} r e) = rw (append_assoc ds es more) (digits_begin ds (es ++ more) r)
float_begins text more (point_first {fs = fs} {es = es} r e) = ap (begins_digit 10) (append_assoc fs es more) ∙ digits_first 10 fs (es ++ more) r
float_begins text more (hexadecimal x m e) = refl

multiple_begins : (text more : List ℕ) → IsMultiple text → begins_number (text ++ more) ≡ true
multiple_begins text more (digits_multiple r) = digits_begin text more r
multiple_begins text more (integer_multiple i) = integer_begins text more i
multiple_begins text more (float_multiple f) = float_begins text more f

pub number_begins : (kind : TokenKind) (text more : List ℕ) → IsNumber kind text → begins_number (text ++ more) ≡ true
number_begins kind text more (int_number i) = integer_begins text more i
number_begins kind text more (float_number f) = float_begins text more f
number_begins kind text more (imaginary_number {text = t} m) = rw (append_assoc t (105 ∷ []) more) (multiple_begins t ((105 ∷ []) ++ more) m)

-- what a test of the first byte rules out
digit_range : (b : ℕ) → is_digit_of 10 b ≡ true → (48 ≤ b) × (b ≤ 57)
digit_range b h = grind (arith, nat_tests)

not_blank : (b : ℕ) → 33 ≤ b → is_space_in_line b ≡ false
not_blank b h = grind (arith, nat_tests)

not_byte : (b c : ℕ) → (b < c) ⊎ (c < b) → (b == c) ≡ false
not_byte b c o = elim o [ inl h ↦ grind (arith, nat_tests) | inr h ↦ grind (arith, nat_tests) ]

byte_is : (b c : ℕ) → (b == c) ≡ true → b ≡ c
byte_is b c h = grind (arith, nat_tests)

digit_starts : (b : ℕ) (bs : List ℕ) → is_digit_of 10 b ≡ true → start_of_byte b bs ≡ Number
digit_starts b bs h =
    let r = digit_range b h in
    let a = not_blank b (omega arith) in
    let n = not_byte b 10 (inr (omega arith)) in
    let s = not_byte b 47 (inr (omega arith)) in
    rw (a, n, s, h) refl

or_cases : (a b : Bool) → (a || b) ≡ true → (a ≡ true) ⊎ (b ≡ true)
or_cases true b h = inl refl
or_cases false b h = inr h

both : (a b : Bool) → (a && b) ≡ true → (a ≡ true) × (b ≡ true)
both true b h = (refl, h)
both false b h = absurd (cc)

pub number_starts : (bytes : List ℕ) → begins_number bytes ≡ true → start_of bytes ≡ Number
unfolding start_of
number_starts [] h = absurd (cc)
number_starts (b ∷ bs) h =
    elim (or_cases (is_digit_of 10 b) (b == 46 && begins_digit 10 bs) h) [
      | inl d ↦ digit_starts b bs d
      | inr p ↦ (let q = both (b == 46) (begins_digit 10 bs) p in subst (λ (c : ℕ). start_of_byte c bs ≡ Number) (sym (byte_is b 46 q.0)) (rw q.1 refl))
    ]

blank_starts : (b : ℕ) (bs : List ℕ) → is_space_in_line b ≡ true → start_of (b ∷ bs) ≡ Blank
unfolding start_of
blank_starts b bs h = rw h refl

newline_starts : (bs : List ℕ) → start_of (10 ∷ bs) ≡ Newline
unfolding start_of
newline_starts bs = refl

rune_starts : (bs : List ℕ) → start_of (39 ∷ bs) ≡ Rune
unfolding start_of
rune_starts bs = refl

quoted_starts : (bs : List ℕ) → start_of (34 ∷ bs) ≡ Quoted
unfolding start_of
quoted_starts bs = refl

raw_starts : (bs : List ℕ) → start_of (96 ∷ bs) ≡ Raw
unfolding start_of
raw_starts bs = refl

-- names
low : (b : ℕ) → is_name_start b ≡ true → 65 ≤ b
low b h = grind (arith, nat_tests)

other : (b : ℕ) → is_name_start b ≡ true → (b == 96) ≡ false
other b h = grind (arith, nat_tests)

no_digit : (b : ℕ) → 65 ≤ b → is_digit_of 10 b ≡ false
no_digit b h = grind (arith, nat_tests)

below_of : (a b : ℕ) → nat_lt a b ≡ true → a < b
below_of a b h = grind (arith, nat_tests)

above_of : (a b : ℕ) → nat_lt a b ≡ false → b ≤ a
above_of a b h = grind (arith, nat_tests)

wide : (b : ℕ) → 128 ≤ b → is_name_start b ≡ true
wide b h = grind (arith, nat_tests)

name_range : (b : ℕ) → is_name_start b ≡ true → (65 ≤ b) × ((b == 96) ≡ false)
name_range b h = (low b h, other b h)

letter_starts : (b : ℕ) (bs : List ℕ) → is_name_start b ≡ true → start_of (b ∷ bs) ≡ Name
unfolding start_of
letter_starts b bs h =
    let r = name_range b h in
    let a = not_blank b (omega arith) in
    let n = not_byte b 10 (inr (omega arith)) in
    let s = not_byte b 47 (inr (omega arith)) in
    let d = no_digit b (omega arith) in
    let p = not_byte b 46 (inr (omega arith)) in
    let q = not_byte b 39 (inr (omega arith)) in
    let dq = not_byte b 34 (inr (omega arith)) in
    rw (a, n, s, d, p, q, dq, r.1, h) refl

name_byte : (c b : ℕ) (bs rest : List ℕ) → is_letter c ≡ true → b ∷ bs ≡ encode_utf8 c ++ rest → is_name_start b ≡ true
name_byte c b bs rest l e =
    elim (nat_lt b 128) as (λ t. nat_lt b 128 ≡ t → is_name_start b ≡ true) [
      | true ↦ (λ h.
          let small : b < 128 = below_of b 128 h in
          let same : c ≡ b = char_from_byte (b ∷ bs) rest c e small (omega arith) in
          ascii_letter b small (ap is_letter (sym same) ∙ l))
      | false ↦ (λ h. wide b (above_of b 128 h))
    ]
    refl

name_starts : (bytes rest : List ℕ) (c : ℕ) → is_letter c ≡ true → bytes ≡ encode_utf8 c ++ rest → start_of bytes ≡ Name
name_starts [] rest c l e = absurd (omega (arith, ap length e, length-append (encode_utf8 c) rest, length-encode c, (len_utf8_bounds c).0))
name_starts (b ∷ bs) rest c l e = letter_starts b bs (name_byte c b bs rest l e)

-- the lexemes of a class
abbrev pub Class : Start → List ℕ → LexemeKind → TokenValue → List ℕ → Type 0
Class Blank bytes k v text = (length text ≡ 1) × (k ≡ lexeme.Blank) × (v ≡ value.Nothing)
Class Newline bytes k v text = (length text ≡ 1) × (k ≡ lexeme.Newline) × (v ≡ value.Nothing)
Class Comment bytes k v text = ⊥
Class Number bytes k v text = ((kind : TokenKind) × IsNumber kind text × (k ≡ lexeme.Token kind) × (v ≡ plain_value kind text)) ⊎ ((text ≡ 46 ∷ []) × (kind : TokenKind) × (kind_in operators text ≡ Some kind) × (k ≡ lexeme.Token kind) × (v ≡ plain_value kind text))
Class Rune bytes k v text = (inner : List ℕ) × (m : Meaning) × IsCharacter 39 inner m × (text ≡ quoted 39 inner) × (k ≡ lexeme.Token token.RuneLit) × (v ≡ value.Rune (meaning_number m))
Class Quoted bytes k v text = (inner : List ℕ) × (out : List ℕ) × AreCharacters 34 inner out × (text ≡ quoted 34 inner) × (k ≡ lexeme.Token token.StrLit) × (v ≡ value.Str out)
Class Raw bytes k v text =
    (inner : List ℕ) × (is_text inner ≡ true) × (list_all (λ b. not (b == 96)) inner ≡ true) × (text ≡ quoted 96 inner) × (k ≡ lexeme.Token token.StrLit) × (v ≡ value.Str (raw_bytes inner))
Class Name bytes k v text = IsName text × (k ≡ lexeme.Token (name_kind text)) × (v ≡ plain_value (name_kind text) text)
Class Sign bytes k v text = (kind : TokenKind) × (kind_in operators text ≡ Some kind) × (k ≡ lexeme.Token kind) × (v ≡ plain_value kind text)

in_class : (s : Start) (bytes text : List ℕ) (k : LexemeKind) (v : TokenValue) → start_of bytes ≡ s → Class s bytes k v text → Class (start_of bytes) bytes k v text
in_class s bytes text k v e c = subst (λ (t : Start). Class t bytes k v text) (sym e) c

number_class : (kind : TokenKind) (text more : List ℕ) (v : TokenValue) → IsNumber kind text → v ≡ plain_value kind text → Class (start_of (text ++ more)) (text ++ more) (lexeme.Token kind) v text
number_class kind text more v is e = in_class Number (text ++ more) text (lexeme.Token kind) v (number_starts (text ++ more) (number_begins kind text more is)) (inl (kind, is, refl, e))

-- operators
-- a byte that begins operators alone
is_sign_byte : ℕ → Bool
is_sign_byte b = not (is_space_in_line b || (b == 10 || (is_digit_of 10 b || (b == 39 || (b == 34 || (b == 96 || is_name_start b))))))

none_or_point : List ℕ → Bool
none_or_point [] = true
none_or_point (b ∷ bs) = b == 46

sign_text : List ℕ → Bool
sign_text [] = false
sign_text (b ∷ bs) = is_sign_byte b && (not (b == 46) || none_or_point bs)

sign_rows : list_all (λ row. sign_text row.0) operators ≡ true
unfolding sign_text none_or_point is_sign_byte operators_of_three operators_of_two operators_of_one
sign_rows = refl

not_false : (a : Bool) → not a ≡ true → a ≡ false
not_false true h = absurd (cc)
not_false false h = refl

or_none : (a b : Bool) → (a || b) ≡ false → (a ≡ false) × (b ≡ false)
or_none true b h = absurd (cc)
or_none false b h = (refl, h)

sign_starts : (b : ℕ) (bs : List ℕ) → is_sign_byte b ≡ true → (b == 47 && (begins_byte 47 bs || begins_byte 42 bs)) ≡ false → (b == 46 && begins_digit 10 bs) ≡ false → start_of (b ∷ bs) ≡ Sign
unfolding start_of is_sign_byte
sign_starts b bs h slash point =
    let dw = is_name_start b in
    let rest_r = b == 96 || dw in
    let rest_dq = b == 34 || rest_r in
    let rest_q = b == 39 || rest_dq in
    let rest_d = is_digit_of 10 b || rest_q in
    let rest_n = b == 10 || rest_d in
    let x : (is_space_in_line b ≡ false) × (rest_n ≡ false) = or_none (is_space_in_line b) rest_n (not_false (is_space_in_line b || rest_n) h) in
    let y : ((b == 10) ≡ false) × (rest_d ≡ false) = or_none (b == 10) rest_d x.1 in
    let z : (is_digit_of 10 b ≡ false) × (rest_q ≡ false) = or_none (is_digit_of 10 b) rest_q y.1 in
    let u : ((b == 39) ≡ false) × (rest_dq ≡ false) = or_none (b == 39) rest_dq z.1 in
    let v : ((b == 34) ≡ false) × (rest_r ≡ false) = or_none (b == 34) rest_r u.1 in
    let w : ((b == 96) ≡ false) × (dw ≡ false) = or_none (b == 96) dw v.1 in
    rw (x.0, y.0, slash, z.0, point, u.0, v.0, w.0, w.1) refl

equal : (a b : ℕ) → a ≡ b → (a == b) ≡ true
equal a b h = grind (arith, nat_tests)

different : (a b : ℕ) → (a == b) ≡ false → (b == a) ≡ false
different a b h = grind (arith, nat_tests)

swap : (a b : ℕ) → (a == b) ≡ (b == a)
swap a b =
    elim (a == b) as (λ t. (a == b) ≡ t → t ≡ (b == a)) [
      | true ↦ (λ h. sym (equal b a (sym (byte_is a b h))))
      | false ↦ (λ h. sym (different a b h))
    ]
    refl

with_nothing : (a : Bool) → ((a && false) || (a && false)) ≡ (a && false)
with_nothing true = refl
with_nothing false = refl

with_second : (a x y : Bool) → ((a && (x && true)) || (a && (y && true))) ≡ (a && (x || y))
with_second true true y = refl
with_second true false true = refl
with_second true false false = refl
with_second false x y = refl

-- where a comment opens
pub opens_is : (b : ℕ) (bs : List ℕ) → opens_comment (b ∷ bs) ≡ (b == 47 && (begins_byte 47 bs || begins_byte 42 bs))
opens_is b [] = rw (swap 47 b) (with_nothing (b == 47))
opens_is b (c ∷ cs) = rw (swap 47 b, swap 47 c, swap 42 c) (with_second (b == 47) (c == 47) (c == 42))

slash_alone : (b : ℕ) (bs : List ℕ) → opens_comment (b ∷ bs) ≡ false → (b == 47 && (begins_byte 47 bs || begins_byte 42 bs)) ≡ false
slash_alone b bs h = sym (opens_is b bs) ∙ h

no_point_digit : (b : ℕ) (bs more : List ℕ) → (not (b == 46) || none_or_point bs) ≡ true → (bs ≡ [] → ⊥) → (b == 46 && begins_digit 10 (bs ++ more)) ≡ false
unfolding none_or_point
no_point_digit b [] more h some = absurd (some refl)
no_point_digit b (c ∷ cs) more h some =
    elim (b == 46) as (λ t. (b == 46) ≡ t → (b == 46 && begins_digit 10 ((c ∷ cs) ++ more)) ≡ false) [
      | true ↦ (λ e. let point : (c == 46) ≡ true = rw e at h in rw e (subst (λ (x : ℕ). is_digit_of 10 x ≡ false) (sym (byte_is c 46 point)) refl))
      | false ↦ (λ e. rw e refl)
    ]
    refl

-- an operator begins bytes of its class, or is the point in prefix of a digit
operator_begins : (text more : List ℕ) → sign_text text ≡ true → opens_comment (text ++ more) ≡ false → (start_of (text ++ more) ≡ Sign) ⊎ ((text ≡ 46 ∷ []) × (begins_digit 10 more ≡ true))
unfolding sign_text
operator_begins [] more h o = absurd (cc)
operator_begins (b ∷ []) more h o =
    let parts = both (is_sign_byte b) _ h in
    elim (b == 46 && begins_digit 10 more) as (λ t. (b == 46 && begins_digit 10 more) ≡ t → (start_of (b ∷ more) ≡ Sign) ⊎ ((b ∷ [] ≡ 46 ∷ []) × (begins_digit 10 more ≡ true))) [
      | true ↦ (λ e. let p = both (b == 46) (begins_digit 10 more) e in inr (ap (λ (x : ℕ). x ∷ []) (byte_is b 46 p.0), p.1))
      | false ↦ (λ e. inl (sign_starts b more parts.0 (slash_alone b more o) e))
    ]
    refl
operator_begins (b ∷ (c ∷ cs)) more h o =
    let parts = both (is_sign_byte b) _ h in
    inl (sign_starts b ((c ∷ cs) ++ more) parts.0 (slash_alone b ((c ∷ cs) ++ more) o) (no_point_digit b (c ∷ cs) more parts.1 (λ e. omega (arith, ap length e))))

operator_class : (kind : TokenKind) (text more : List ℕ) → kind_in operators text ≡ Some kind → opens_comment (text ++ more) ≡ false → Class (start_of (text ++ more)) (text ++ more) (lexeme.Token kind) (plain_value kind text) text
operator_class kind text more e o =
    elim (operator_begins text more (in_table sign_text operators text kind sign_rows e) o) [
      | inl s ↦ in_class Sign (text ++ more) text (lexeme.Token kind) (plain_value kind text) s (kind, e, refl, refl)
      | inr p ↦
          (let begins : begins_number (text ++ more) ≡ true = ap (λ (xs : List ℕ). begins_number (xs ++ more)) p.0 ∙ p.1 in
          in_class Number (text ++ more) text (lexeme.Token kind) (plain_value kind text) (number_starts (text ++ more) begins) (inr (p.0, kind, e, refl, refl)))
    ]

-- a lexeme that is no comment is of the class of the bytes that it begins
pub classed : (k : LexemeKind) (v : TokenValue) (text more : List ℕ) → IsLexeme k v text → opens_comment (text ++ more) ≡ false → Class (start_of (text ++ more)) (text ++ more) k v text
classed k v text more (blank {b = b} h) o = in_class Blank (b ∷ more) (b ∷ []) lexeme.Blank value.Nothing (blank_starts b more h) (refl, refl, refl)
classed k v text more newline o = in_class Newline (10 ∷ more) (10 ∷ []) lexeme.Newline value.Nothing (newline_starts more) (refl, refl, refl)
classed k v text more (name {text = t} c cs l s r e) o =
    in_class Name (t ++ more) t (lexeme.Token (name_kind t)) (plain_value (name_kind t) t)
    (name_starts (t ++ more) (cs ++ more) c l (ap (λ (xs : List ℕ). xs ++ more) e ∙ append_assoc (encode_utf8 c) cs more)) ((c, cs, l, s, r, e), refl, refl)
classed k v text more (operator {kind = kind} {text = t} e) o = operator_class kind t more e o
classed k v text more (integer {text = t} i) o = number_class token.IntLit t more (plain_value token.IntLit t) (int_number i) refl
classed k v text more (float {text = t} f) o = number_class token.FloatLit t more value.Nothing (float_number f) refl
classed k v text more (imaginary {text = t} m) o = number_class token.ImagLit (t ++ (105 ∷ [])) more value.Nothing (imaginary_number m) refl
classed k v text more (rune {text = t} {meaning = m} r) o =
    in_class Rune (quoted 39 t ++ more) (quoted 39 t) (lexeme.Token token.RuneLit) (value.Rune (meaning_number m)) (rune_starts ((t ++ (39 ∷ [])) ++ more)) (t, m, r, refl, refl, refl)
classed k v text more (string {text = t} {bytes = out} s) o =
    in_class Quoted (quoted 34 t ++ more) (quoted 34 t) (lexeme.Token token.StrLit) (value.Str out) (quoted_starts ((t ++ (34 ∷ [])) ++ more)) (t, out, s, refl, refl, refl)
classed k v text more (raw_string t a b) o =
    in_class Raw (quoted 96 t ++ more) (quoted 96 t) (lexeme.Token token.StrLit) (value.Str (raw_bytes t)) (raw_starts ((t ++ (96 ∷ [])) ++ more)) (t, a, b, refl, refl, refl)

abbrev start_pick : Bool → Bool → Bool → Bool → Bool → Bool → Bool → Bool → Start
start_pick a b n d q dq r w = if a then Blank else (if b then Newline else (if n then Comment else (if d then Number else (if q then Rune else (if dq then Quoted else (if r then Raw else (if w then Name else Sign)))))))

-- what the class tells of the tests
abbrev pub Tells : Start → Bool → Bool → Bool → Bool → Bool → Bool → Bool → Type 0
Tells Blank a b n d q dq r = a ≡ true
Tells Newline a b n d q dq r = b ≡ true
Tells Comment a b n d q dq r = n ≡ true
Tells Number a b n d q dq r = d ≡ true
Tells Rune a b n d q dq r = q ≡ true
Tells Quoted a b n d q dq r = dq ≡ true
Tells Raw a b n d q dq r = r ≡ true
Tells Name a b n d q dq r = Unit {0}
Tells Sign a b n d q dq r = Unit {0}

tells : (a b n d q dq r w : Bool) → Tells (start_pick a b n d q dq r w) a b n d q dq r
tells true b n d q dq r w = refl
tells false true n d q dq r w = refl
tells false false true d q dq r w = refl
tells false false false true q dq r w = refl
tells false false false false true dq r w = refl
tells false false false false false true r w = refl
tells false false false false false false true w = refl
tells false false false false false false false true = tt
tells false false false false false false false false = tt

pub byte_tells : (b : ℕ) (bs : List ℕ) (s : Start) → start_of (b ∷ bs) ≡ s
    → Tells s (is_space_in_line b) (b == 10) (b == 47 && (begins_byte 47 bs || begins_byte 42 bs)) (begins_number (b ∷ bs)) (b == 39) (b == 34) (b == 96)
unfolding start_of
byte_tells b bs s e =
    subst (λ (t : Start). Tells t (is_space_in_line b) (b == 10) (b == 47 && (begins_byte 47 bs || begins_byte 42 bs)) (begins_number (b ∷ bs)) (b == 39) (b == 34) (b == 96)) e
    (tells (is_space_in_line b) (b == 10) (b == 47 && (begins_byte 47 bs || begins_byte 42 bs)) (begins_number (b ∷ bs)) (b == 39) (b == 34) (b == 96) (is_name_start b))

-- where a comment opens, the class says so
slash_starts : (b : ℕ) (bs : List ℕ) → (b == 47 && (begins_byte 47 bs || begins_byte 42 bs)) ≡ true → start_of (b ∷ bs) ≡ Comment
unfolding start_of
slash_starts b bs h =
    let p = both (b == 47) (begins_byte 47 bs || begins_byte 42 bs) h in
    subst (λ (c : ℕ). start_of_byte c bs ≡ Comment) (sym (byte_is b 47 p.0)) (rw p.1 refl)

pub open_starts : (bytes : List ℕ) → opens_comment bytes ≡ true → start_of bytes ≡ Comment
open_starts [] h = absurd (cc)
open_starts (b ∷ bs) h = slash_starts b bs (sym (opens_is b bs) ∙ h)

pub not_open : (bytes : List ℕ) (s : Start) → start_of bytes ≡ s → (s ≡ Comment → ⊥) → opens_comment bytes ≡ false
not_open bytes s e other = elim (opens_comment bytes) as (λ t. opens_comment bytes ≡ t → t ≡ false) [ true ↦ (λ h. absurd (other (sym e ∙ open_starts bytes h))) | false ↦ (λ h. refl) ] refl

pub is_byte : (b c : ℕ) → (b == c) ≡ true → b ≡ c
is_byte b c h = byte_is b c h

pub open_from : (b : ℕ) (bs : List ℕ) → start_of (b ∷ bs) ≡ Comment → opens_comment (b ∷ bs) ≡ true
open_from b bs e = opens_is b bs ∙ byte_tells b bs Comment e
