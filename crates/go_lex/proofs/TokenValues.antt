-- What tokens say.
use Rattle.std.proofs.Common.{◌≡◌, ◌⊎◌, inl, inr, ℕ, suc, ◌+◌, ◌-◌, ◌≤◌, Bool, true, false, ◌&&◌, not, List, [], ◌∷◌, ◌++◌, length, take, drop, refl, sym, ap, ◌∙◌, subst, arith, length-append, Option, Some, None, ◌==◌}
use Rattle.std.proofs.Common.{Result, Ok, Err, IfOk}
use Rattle.std.specs.Prelude.{bytes_eq, unwrap_or}
use Rattle.std.specs.List.{list_all}
use Rattle.std.proofs.lemmas.List.{take_at}
use Rattle.go_syntax.specs.declared.token.TokenKind.{TokenKind}
use Rattle.go_syntax.specs.declared.token.TokenKind.TheVariants as token
use Rattle.go_syntax.specs.declared.token.TokenValue.{TokenValue}
use Rattle.go_syntax.specs.declared.token.TokenValue.TheVariants as value
use Rattle.go_syntax.specs.declared.token.LexemeKind.{LexemeKind}
use Rattle.go_syntax.specs.declared.token.LexemeKind.TheVariants as lexeme
use Rattle.go_syntax.specs.lexical.Quotes.{meaning_number, AreCharacters, raw_bytes}
use Rattle.go_base.specs.Keywords.{keywords}
use Rattle.go_syntax.specs.lexical.Words.{KindTable, kind_in, keyword_table, keyword_kinds, operators, operators_of_three, operators_of_two, operators_of_one, name_kind}
use Rattle.go_syntax.specs.lexical.Lexemes.{plain_value, quoted, IsLexeme, blank, newline, name, operator, integer, float, imaginary, rune, string, raw_string}
use Rattle.go_lex.specs.declared.quote.Character.{Character as CharacterPrefix}
use Rattle.go_lex.specs.inner.CharacterPrefixes.{BeginsCharacter, BeginsNoCharacter}
use Rattle.go_lex.specs.inner.Starts.{begins_byte}
use Rattle.go_lex.specs.inner.OnlyTexts.{IsRune, IsRuneOf, IsString, IsRaw}
use Rattle.go_lex.proofs.Literals.{same_first, single}

-- the kinds of literals in quotes
abbrev pub is_quoted : TokenKind → Bool
is_quoted token.RuneLit = true
is_quoted token.StrLit = true
is_quoted _ = false

both : (a b : Bool) → (a && b) ≡ true → (a ≡ true) × (b ≡ true)
both true b h = (refl, h)
both false b h = absurd (cc)

not_false : (a : Bool) → not a ≡ true → a ≡ false
not_false true h = absurd (cc)
not_false false h = refl

same_kind : (k j : TokenKind) → ◌≡◌ {A = Option TokenKind} (Some k) (Some j) → k ≡ j
same_kind k j e = cc

rows_unquoted : (table : KindTable) (text : List ℕ) (kind : TokenKind) → list_all (λ row. not (is_quoted row.1)) table ≡ true → kind_in table text ≡ Some kind → is_quoted kind ≡ false
rows_unquoted [] text kind h e = absurd (cc)
rows_unquoted (row ∷ rows) text kind h e =
    let parts = both (not (is_quoted row.1)) (list_all (λ r. not (is_quoted r.1)) rows) h in
    elim (bytes_eq text row.0) as (λ t. bytes_eq text row.0 ≡ t → is_quoted kind ≡ false) [
      | true ↦ (λ s. ap is_quoted (sym (same_kind row.1 kind (rw s at e))) ∙ not_false (is_quoted row.1) parts.0)
      | false ↦ (λ s. rows_unquoted rows text kind parts.1 (rw s at e))
    ]
    refl

operator_unquoted : (text : List ℕ) (kind : TokenKind) → kind_in operators text ≡ Some kind → is_quoted kind ≡ false
unfolding operators_of_three operators_of_two operators_of_one
operator_unquoted text kind e = rows_unquoted operators text kind refl e

name_by : (o : Option TokenKind) → ((k : TokenKind) → o ≡ Some k → is_quoted k ≡ false) → is_quoted (unwrap_or o token.Ident) ≡ false
name_by None f = refl
name_by (Some k) f = f k refl

name_unquoted : (text : List ℕ) → is_quoted (name_kind text) ≡ false
unfolding keywords keyword_kinds
name_unquoted text = name_by (kind_in keyword_table text) (λ k e. rows_unquoted keyword_table text k refl e)

same_token : (k j : TokenKind) → lexeme.Token k ≡ lexeme.Token j → k ≡ j
same_token k j e = cc

-- what a token that is no literal in quotes says
plain_by : (kind : TokenKind) (k : LexemeKind) (v : TokenValue) (text : List ℕ) → IsLexeme k v text → k ≡ lexeme.Token kind → is_quoted kind ≡ false → IsLexeme (lexeme.Token kind) (plain_value kind text) text
plain_by kind k v text (blank h) e q = absurd (cc)
plain_by kind k v text newline e q = absurd (cc)
plain_by kind k v text (name {text = t} c cs l s r j) e q = subst (λ (x : TokenKind). IsLexeme (lexeme.Token x) (plain_value x t) t) (same_token (name_kind t) kind e) (name c cs l s r j)
plain_by kind k v text (operator {kind = o} {text = t} row) e q = subst (λ (x : TokenKind). IsLexeme (lexeme.Token x) (plain_value x t) t) (same_token o kind e) (operator row)
plain_by kind k v text (integer {text = t} i) e q = subst (λ (x : TokenKind). IsLexeme (lexeme.Token x) (plain_value x t) t) (same_token token.IntLit kind e) (integer i)
plain_by kind k v text (float {text = t} f) e q = subst (λ (x : TokenKind). IsLexeme (lexeme.Token x) (plain_value x t) t) (same_token token.FloatLit kind e) (float f)
plain_by kind k v text (imaginary {text = t} m) e q =
    subst (λ (x : TokenKind). IsLexeme (lexeme.Token x) (plain_value x (t ++ (105 ∷ []))) (t ++ (105 ∷ []))) (same_token token.ImagLit kind e) (imaginary m)
plain_by kind k v text (rune r) e q = absurd (let no' : true ≡ false = ap is_quoted (same_token token.RuneLit kind e) ∙ q in cc)
plain_by kind k v text (string s) e q = absurd (let no' : true ≡ false = ap is_quoted (same_token token.StrLit kind e) ∙ q in cc)
plain_by kind k v text (raw_string t a b) e q = absurd (let no' : true ≡ false = ap is_quoted (same_token token.StrLit kind e) ∙ q in cc)

pub plain_said : (kind : TokenKind) (text : List ℕ) → (said : TokenValue) × IsLexeme (lexeme.Token kind) said text → is_quoted kind ≡ false → IsLexeme (lexeme.Token kind) (plain_value kind text) text
plain_said kind text s q = plain_by kind (lexeme.Token kind) s.0 text s.1 refl q

pub ident_said : (kind : TokenKind) (text : List ℕ) → kind ≡ token.Ident → (said : TokenValue) × IsLexeme (lexeme.Token kind) said text → IsLexeme (lexeme.Token kind) (value.Ident text) text
ident_said kind text e s =
    subst (λ (v : TokenValue). IsLexeme (lexeme.Token kind) v text) (ap (λ (k : TokenKind). plain_value k text) e) (plain_said kind text s (ap is_quoted e))

pub int_said : (kind : TokenKind) (text : List ℕ) (v : TokenValue) → kind ≡ token.IntLit → (said : TokenValue) × IsLexeme (lexeme.Token kind) said text → v ≡ plain_value token.IntLit text → IsLexeme (lexeme.Token kind) v text
int_said kind text v e s is =
    subst (λ (u : TokenValue). IsLexeme (lexeme.Token kind) u text) (ap (λ (k : TokenKind). plain_value k text) e ∙ sym is) (plain_said kind text s (ap is_quoted e))

silent_kind : (kind : TokenKind) (text : List ℕ) → (kind ≡ token.Ident → ⊥) → (kind ≡ token.IntLit → ⊥) → (kind ≡ token.RuneLit → ⊥) → (kind ≡ token.StrLit → ⊥) → (is_quoted kind ≡ false) × (plain_value kind text ≡ value.Nothing)
silent_kind token.Ident text a b c d = absurd (a refl)
silent_kind token.IntLit text a b c d = absurd (b refl)
silent_kind token.RuneLit text a b c d = absurd (c refl)
silent_kind token.StrLit text a b c d = absurd (d refl)
silent_kind _ text a b c d = (refl, refl)

pub silent_said : (kind : TokenKind) (text : List ℕ) → (kind ≡ token.Ident → ⊥) → (kind ≡ token.IntLit → ⊥) → (kind ≡ token.RuneLit → ⊥) → (kind ≡ token.StrLit → ⊥) → (said : TokenValue) × IsLexeme (lexeme.Token kind) said text
    → IsLexeme (lexeme.Token kind) value.Nothing text
silent_said kind text a b c d s =
    let k = silent_kind kind text a b c d in
    subst (λ (v : TokenValue). IsLexeme (lexeme.Token kind) v text) k.1 (plain_said kind text s k.0)

-- rune literals
rune_by : (k : LexemeKind) (v : TokenValue) (text : List ℕ) → IsLexeme k v text → k ≡ lexeme.Token token.RuneLit → IsRune text
rune_by k v text (blank h) e = absurd (cc)
rune_by k v text newline e = absurd (cc)
rune_by k v text (name {text = t} c cs l s r j) e = absurd (let no' : false ≡ true = sym (name_unquoted t) ∙ ap is_quoted (same_token (name_kind t) token.RuneLit e) in cc)
rune_by k v text (operator {kind = o} {text = t} row) e = absurd (let no' : false ≡ true = sym (operator_unquoted t o row) ∙ ap is_quoted (same_token o token.RuneLit e) in cc)
rune_by k v text (integer i) e = absurd (cc)
rune_by k v text (float f) e = absurd (cc)
rune_by k v text (imaginary m) e = absurd (cc)
rune_by k v text (rune {text = t} {meaning = m} r) e = (t, m, r, refl)
rune_by k v text (string s) e = absurd (cc)
rune_by k v text (raw_string t a b) e = absurd (cc)

pub rune_text : (kind : TokenKind) (text : List ℕ) → kind ≡ token.RuneLit → (said : TokenValue) × IsLexeme (lexeme.Token kind) said text → IsRune text
rune_text kind text e s = rune_by (lexeme.Token kind) s.0 text s.1 (ap lexeme.Token e)

pub rune_said : (kind : TokenKind) (text : List ℕ) (n : ℕ) → kind ≡ token.RuneLit → IsRuneOf text n → IsLexeme (lexeme.Token kind) (value.Rune n) text
rune_said kind text n e r =
    subst (λ (p : TokenKind × ℕ × List ℕ). IsLexeme (lexeme.Token p.0) (value.Rune p.1) p.2) (λ i. (sym e i, sym r.4 i, sym r.3 i)) (rune r.2)

behind_first : (q : ℕ) (text inner : List ℕ) → text ≡ quoted q inner → drop 1 text ≡ inner ++ (q ∷ [])
behind_first q text inner e = ap (drop 1) e

pub rune_found : (text behind : List ℕ) (x : CharacterPrefix) (n : ℕ) → IsRune text → behind ≡ drop 1 text → BeginsCharacter 39 behind x → n ≡ meaning_number x.meaning → IsRuneOf text n
rune_found text behind x n r is b e =
    let first = same_first 39 behind r.0 (39 ∷ []) r.1 x single b r.2 (is ∙ behind_first 39 text r.0 r.3) in
    (r.0, r.1, r.2, r.3, e ∙ ap meaning_number first.1)

pub rune_lost : (text behind : List ℕ) → IsRune text → behind ≡ drop 1 text → BeginsNoCharacter 39 behind → ⊥
rune_lost text behind r is none = none r.0 (39 ∷ []) r.1 r.2 (is ∙ behind_first 39 text r.0 r.3)

pub rune_long : (text : List ℕ) → IsRune text → 1 ≤ length text
rune_long text r = omega (arith, ap length r.3)

-- string literals
string_by : (k : LexemeKind) (v : TokenValue) (text : List ℕ) → IsLexeme k v text → k ≡ lexeme.Token token.StrLit → IsString text ⊎ IsRaw text
string_by k v text (blank h) e = absurd (cc)
string_by k v text newline e = absurd (cc)
string_by k v text (name {text = t} c cs l s r j) e = absurd (let no' : false ≡ true = sym (name_unquoted t) ∙ ap is_quoted (same_token (name_kind t) token.StrLit e) in cc)
string_by k v text (operator {kind = o} {text = t} row) e = absurd (let no' : false ≡ true = sym (operator_unquoted t o row) ∙ ap is_quoted (same_token o token.StrLit e) in cc)
string_by k v text (integer i) e = absurd (cc)
string_by k v text (float f) e = absurd (cc)
string_by k v text (imaginary m) e = absurd (cc)
string_by k v text (rune r) e = absurd (cc)
string_by k v text (string {text = t} {bytes = out} s) e = inl (t, out, s, refl)
string_by k v text (raw_string t a b) e = inr (t, a, b, refl)

pub string_text : (text : List ℕ) → (said : TokenValue) × IsLexeme (lexeme.Token token.StrLit) said text → IsString text ⊎ IsRaw text
string_text text s = string_by (lexeme.Token token.StrLit) s.0 text s.1 refl

quoted_long : (q : ℕ) (text inner : List ℕ) → text ≡ quoted q inner → length text ≡ suc (length inner + 1)
quoted_long q text inner e = omega (arith, ap length e, length-append inner (q ∷ []))

pub string_long : (text : List ℕ) → IsString text ⊎ IsRaw text → 2 ≤ length text
string_long text o = elim o [ inl s ↦ omega (arith, quoted_long 34 text s.0 s.3) | inr s ↦ omega (arith, quoted_long 96 text s.0 s.3) ]

between : (q : ℕ) (text inner : List ℕ) → text ≡ quoted q inner → take (length text - 2) (drop 1 text) ≡ inner
between q text inner e =
    let size : length text - 2 ≡ length inner = omega (arith, quoted_long q text inner e) in
    ap (λ (n : ℕ). take n (drop 1 text)) size ∙ ap (λ (xs : List ℕ). take (length inner) xs) (behind_first q text inner e) ∙ take_at inner (q ∷ []) (length inner) refl

first_byte : (q c : ℕ) (text inner : List ℕ) (t : Bool) → text ≡ quoted q inner → begins_byte c text ≡ t → (q == c) ≡ t
first_byte q c text inner t e h = sym (ap (begins_byte c) e) ∙ h

pub raw_said : (text inner out : List ℕ) → IsString text ⊎ IsRaw text → begins_byte 96 text ≡ true → inner ≡ take (length text - 2) (drop 1 text) → out ≡ raw_bytes inner → IsLexeme (lexeme.Token token.StrLit) (value.Str out) text
raw_said text inner out o h is e =
    elim o [
      | inl s ↦ absurd (let no' : false ≡ true = first_byte 34 96 text s.0 true s.3 h in cc)
      | inr s ↦
          (let same : inner ≡ s.0 = is ∙ between 96 text s.0 s.3 in
          let value_is : out ≡ raw_bytes s.0 = e ∙ ap raw_bytes same in
          subst (λ (p : List ℕ × List ℕ). IsLexeme (lexeme.Token token.StrLit) (value.Str p.0) p.1) (λ i. (sym value_is i, sym s.3 i)) (raw_string s.0 s.1 s.2))
    ]

pub string_inner : (text inner : List ℕ) → IsString text ⊎ IsRaw text → begins_byte 96 text ≡ false → inner ≡ take (length text - 2) (drop 1 text) → (out : List ℕ) × AreCharacters 34 inner out
string_inner text inner o h is =
    elim o [
      | inl s ↦ (s.1, subst (λ (xs : List ℕ). AreCharacters 34 xs s.1) (sym (is ∙ between 34 text s.0 s.3)) s.2)
      | inr s ↦ absurd (let no' : true ≡ false = first_byte 96 96 text s.0 false s.3 h in cc)
    ]

pub string_said : (text inner out : List ℕ) → IsString text ⊎ IsRaw text → begins_byte 96 text ≡ false → inner ≡ take (length text - 2) (drop 1 text) → AreCharacters 34 inner out → IsLexeme (lexeme.Token token.StrLit) (value.Str out) text
string_said text inner out o h is a =
    elim o [
      | inl s ↦
          (let same : inner ≡ s.0 = is ∙ between 34 text s.0 s.3 in
          subst (λ (xs : List ℕ). IsLexeme (lexeme.Token token.StrLit) (value.Str out) xs) (sym s.3) (string (subst (λ (xs : List ℕ). AreCharacters 34 xs out) same a)))
      | inr s ↦ absurd (let no' : true ≡ false = first_byte 96 96 text s.0 false s.3 h in cc)
    ]

pub map_ok : {A E : Type 0} (r : Result A E) (P Q : A → Type 0) → ((x : A) → P x → Q x) → IfOk r P → IfOk r Q
map_ok (Ok x) P Q f h = f x h
map_ok (Err e) P Q f h = tt
