-- A file has tokens, or an offset at which none stands.
use Rattle.std.proofs.Common.{◌≡◌, ◌≢◌, ◌⊎◌, ℕ, zero, suc, ◌+◌, ◌-◌, ◌<◌, ◌≤◌, Bool, true, false, List, [], ◌∷◌, ◌++◌, length, take, drop, Option, Some, None, refl, sym, ap, ◌∙◌, subst, inl, inr, arith, length-append}
use mathlib.Core.Bool.{true≢false}
use Rattle.std.specs.List.{list_all}
use Rattle.std.specs.Prelude.{bytes_eq, codes, ◌&&◌, if◌then◌else◌}
use Rattle.std.specs.Char.{encode_utf8}
use Rattle.std.specs.Option.{option_map}
use Rattle.std.proofs.lemmas.Slice.Eq.{bytes_eq-Decides}
use Rattle.std.proofs.lemmas.Str.{len_utf8_bounds, length-encode}
use Rattle.go_base.specs.Comments.{close_len, comment_len, is_text, line_len, starts_with, text_len, without_mark}
use Rattle.go_existence.specs.Existence.{NotNone}
use Rattle.go_existence.proofs.DoubleNegation.{decided, less_or, so, sure, bind}
use Rattle.go_existence.proofs.LeastNumbers.{greatest}
use Rattle.go_syntax.specs.declared.token.Token.{Token}
use Rattle.go_syntax.specs.declared.token.TokenKind.{TokenKind}
use Rattle.go_syntax.specs.declared.token.TokenValue.{TokenValue}
use Rattle.go_syntax.specs.lexical.Lexemes.{Begins, BeginsLongest, BeginsNone, CutTo, IsBadOffset, IsLexeme, Lexeme, Stands, here, next, blank, newline, name, operator, integer, float, imaginary, rune, string, raw_string}
use Rattle.go_syntax.specs.lexical.Numbers.{AreDigits, IsFloat, IsInteger, decimal_integer, digit_apart, digit_more, hexadecimal, octal_integer, one_digit, point_first, pointed, pointless, prefixed_integer}
use Rattle.go_syntax.specs.lexical.Words.{KindTable, kind_in, operators, operators_of_one, operators_of_three, operators_of_two}
use Rattle.go_syntax.specs.lexical.Tokens.{IsTokens, tokens_of}

-- ---- a comment has bytes

text_is : (b : Bool) (k n : ℕ) → (if b then Some k else None) ≡ Some n → k ≡ n
text_is true k n e = cc
text_is false k n e = absurd (let f : ◌≡◌ {A = Option ℕ} None (Some n) = e in cc)

first_same : (b c : ℕ) (bs cs : List ℕ) → b ∷ bs ≡ c ∷ cs → b ≡ c
first_same b c bs cs e = cc

line_some : (bytes : List ℕ) → starts_with (codes "//") bytes ≡ true → 0 < line_len bytes
line_some [] e = absurd (true≢false (sym e))
line_some (b ∷ bs) e =
    let f : 47 ≡ b = first_same 47 b (47 ∷ []) (take 1 bs) ((bytes_eq-Decides (codes "//") (take 2 (b ∷ bs))).0 e) in
    subst (λ (c : ℕ). 0 < line_len (c ∷ bs)) f (omega arith)

close_some : (bytes : List ℕ) (o : Option ℕ) (n : ℕ) → text_len bytes (option_map (λ (k : ℕ). k + 2) o) ≡ Some n → 0 < n
close_some bytes None n e = absurd (let f : ◌≡◌ {A = Option ℕ} None (Some n) = e in cc)
close_some bytes (Some k) n e = let f = text_is (is_text (take (k + 2) bytes)) (k + 2) n e in omega (arith, f)

general_by : (b : Bool) (bytes : List ℕ) (n : ℕ) → (if b then text_len bytes (option_map (λ (k : ℕ). k + 2) (close_len (drop 2 bytes))) else None) ≡ Some n → 0 < n
general_by true bytes n e = close_some bytes (close_len (drop 2 bytes)) n e
general_by false bytes n e = absurd (let f : ◌≡◌ {A = Option ℕ} None (Some n) = e in cc)

comment_by : (b : Bool) (bytes : List ℕ) (n : ℕ) → starts_with (codes "//") bytes ≡ b
    → (if b then text_len bytes (Some (line_len bytes)) else (if starts_with (codes "/*") bytes then text_len bytes (option_map (λ (k : ℕ). k + 2) (close_len (drop 2 bytes))) else None)) ≡ Some n → 0 < n
comment_by true bytes n f e = let s = line_some bytes f in let g = text_is (is_text (take (line_len bytes) bytes)) (line_len bytes) n e in omega (arith, s, g)
comment_by false bytes n f e = general_by (starts_with (codes "/*") bytes) bytes n e

pub comment_some : (bytes : List ℕ) (n : ℕ) → comment_len bytes ≡ Some n → 0 < n
unfolding comment_len
comment_some bytes n e = comment_by (starts_with (codes "//") bytes) bytes n refl e

-- ---- a lexeme has bytes

digits_some : (base : ℕ) (ds : List ℕ) → AreDigits base ds → 0 < length ds
digits_some base ds (one_digit h) = omega arith
digits_some base ds (digit_more h r) = omega arith
digits_some base ds (digit_apart h r) = omega arith

integer_some : (text : List ℕ) → IsInteger text → 0 < length text
integer_some text (decimal_integer h r) = omega arith
integer_some text (octal_integer r) = omega arith
integer_some text (prefixed_integer h r) = omega arith

float_some : (text : List ℕ) → IsFloat text → 0 < length text
float_some text (pointed {ds = ds} {fs = fs} {es = es} d f e) = let l = length-append ds (46 ∷ (fs ++ es)) in omega (arith, l)
float_some text (pointless {ds = ds} {es = es} d e) = let l = length-append ds es in let k = digits_some 10 ds d in omega (arith, l, k)
float_some text (point_first f e) = omega arith
float_some text (hexadecimal h m e) = omega arith

both : (a b : Bool) → (a && b) ≡ true → (a ≡ true) × (b ≡ true)
both true b e = (refl, e)
both false b e = absurd (true≢false (sym e))

is_some : List ℕ → Bool
is_some [] = false
is_some (b ∷ bs) = true

some_bytes : (text : List ℕ) → is_some text ≡ true → 0 < length text
unfolding is_some
some_bytes [] e = absurd (true≢false (sym e))
some_bytes (b ∷ bs) e = omega arith

in_table : (table : KindTable) (text : List ℕ) (kind : TokenKind) → list_all (λ row. is_some row.0) table ≡ true → kind_in table text ≡ Some kind → is_some text ≡ true
in_table [] text kind h e = absurd (let f : ◌≡◌ {A = Option TokenKind} None (Some kind) = e in cc)
in_table (row ∷ rows) text kind h e = by (bytes_eq text row.0) refl e (in_table rows text kind (both (is_some row.0) (list_all (λ r. is_some r.0) rows) h).1)
  where
    by : (b : Bool) → bytes_eq text row.0 ≡ b → (if b then Some row.1 else kind_in rows text) ≡ Some kind → (kind_in rows text ≡ Some kind → is_some text ≡ true) → is_some text ≡ true
    by true s g rest = subst (λ (xs : List ℕ). is_some xs ≡ true) (sym ((bytes_eq-Decides text row.0).0 s)) (both (is_some row.0) (list_all (λ r. is_some r.0) rows) h).0
    by false s g rest = rest g

operator_some : (text : List ℕ) (kind : TokenKind) → kind_in operators text ≡ Some kind → 0 < length text
unfolding is_some operators_of_three operators_of_two operators_of_one
operator_some text kind e = some_bytes text (in_table operators text kind refl e)

lexeme_some : (kind : _) (value : TokenValue) (text : List ℕ) → IsLexeme kind value text → 0 < length text
lexeme_some kind value text (blank {b = b} e) = omega arith
lexeme_some kind value text newline = omega arith
lexeme_some kind value all (name {text = text} c cs l s r e) =
    let f : length text ≡ length (encode_utf8 c ++ cs) = ap length e in
    let g = length-append (encode_utf8 c) cs in let h = length-encode c in let b = (len_utf8_bounds c).0 in omega (arith, f, g, h, b)
lexeme_some kind value all (operator {kind = k} {text = text} e) = operator_some text k e
lexeme_some kind value all (integer {text = text} h) = integer_some text h
lexeme_some kind value all (float {text = text} h) = float_some text h
lexeme_some kind value all (imaginary {text = text} h) = let f = length-append text (105 ∷ []) in omega (arith, f)
lexeme_some kind value all (rune {text = text} h) = omega arith
lexeme_some kind value all (string {text = text} h) = omega arith
lexeme_some kind value text (raw_string t a b) = omega arith

-- ---- the cut

begins_some : (bytes : List ℕ) (x : Lexeme) (rest : List ℕ) → Begins bytes x rest → 0 < length x.text
begins_some bytes x rest b = elim b.stands [ inl c ↦ comment_some bytes (length x.text) c.len | inr l ↦ lexeme_some x.kind x.value x.text l.1 ]

begins_short : (bytes : List ℕ) (x : Lexeme) (rest : List ℕ) → Begins bytes x rest → length bytes ≡ length x.text + length rest
begins_short bytes x rest b = ap length b.joined ∙ length-append x.text rest

HasLength : List ℕ → ℕ → Type 0
HasLength bytes n = (x : Lexeme) × (rest : List ℕ) × Begins bytes x rest × (length x.text ≡ n)

abbrev Longest : List ℕ → Type 0
Longest bytes = (x : Lexeme) × (rest : List ℕ) × BeginsLongest bytes x rest

longest : (bytes : List ℕ) (x : Lexeme) (rest : List ℕ) → Begins bytes x rest → NotNone (Longest bytes)
unfolding HasLength
longest bytes x rest b = so (greatest (HasLength bytes) (suc (length bytes)) (λ n h. let l = begins_short bytes h.0 h.1 h.2 in let e = h.3 in omega (arith, l, e)) (length x.text) (x, rest, b, refl)) (λ m. (
  m.1.0,
  m.1.1,
  record {
    begins = m.1.2;
    longest = λ other more c. elim (less_or (length m.1.0.text) (length other.text)) [
      | inl l ↦ absurd (m.2 (length other.text) (let e = m.1.3 in omega (arith, l, e)) (other, more, c, refl))
      | inr l ↦ l
    ];
  },
))

abbrev Cut : List ℕ → Type 0
Cut bytes = (lexemes : List Lexeme) × (rest : List ℕ) × CutTo bytes lexemes rest × ((rest ≡ []) ⊎ ((rest ≢ []) × BeginsNone rest))

cut_on : (bytes : List ℕ) (x : Lexeme) (rest : List ℕ) → BeginsLongest bytes x rest → Cut rest → Cut bytes
cut_on bytes x rest b c = (x ∷ c.0, c.1, next b c.2, c.3)

some_cons : (b : ℕ) (bs : List ℕ) → b ∷ bs ≡ [] → ⊥
some_cons b bs e = cc

cut_to : (n : ℕ) (bytes : List ℕ) → length bytes ≤ n → NotNone (Cut bytes)
cut_to n [] few = sure ([], [], here, inl refl)
cut_to zero (b ∷ bs) few = absurd (omega (arith, few))
cut_to (suc n) (b ∷ bs) few = bind (decided ((x : Lexeme) × (rest : List ℕ) × Begins (b ∷ bs) x rest)) (λ d. elim d [
  | inr never ↦ sure ([], b ∷ bs, here, inr (some_cons b bs, λ x rest k. never (x, rest, k)))
  | inl x ↦ bind (longest (b ∷ bs) x.0 x.1 x.2) (λ y.
      let s = begins_some (b ∷ bs) y.0 y.1 y.2.begins in
      let l = begins_short (b ∷ bs) y.0 y.1 y.2.begins in
      so (cut_to n y.1 (omega (arith, few, s, l))) (cut_on (b ∷ bs) y.0 y.1 y.2))
])

pub tokens_or_bad : (bytes : List ℕ) → NotNone (((tokens : List Token) × IsTokens bytes tokens) ⊎ ((at : ℕ) × IsBadOffset bytes at))
tokens_or_bad bytes = so (cut_to (length (without_mark bytes)) (without_mark bytes) (omega arith)) (λ c. elim c.3 [
  | inl e ↦ inl (tokens_of (length bytes - length (without_mark bytes)) None c.0, record { lexemes = c.0; cut = subst (CutTo (without_mark bytes) c.0) e c.2; tokens_are = refl })
  | inr m ↦ inr (length bytes - length c.1, record { lexemes = c.0; rest = c.1; cut = c.2; more = m.0; none = m.1; offset = refl })
])
