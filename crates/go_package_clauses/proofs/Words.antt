-- Names and keywords as lexemes.
use Rattle.std.proofs.Common.{◌≡◌, inr, ℕ, ◌≤◌, Bool, true, false, ◌||◌, ◌&&◌, not, List, [], ◌∷◌, ◌++◌, length, refl, sym, ap, ◌∙◌, subst, arith, length-append, append_assoc, Option, Some, None}
use Rattle.std.specs.Prelude.{bytes_eq, codes, unwrap_or}
use Rattle.std.specs.Char.{IsScalar, encode_utf8}
use Rattle.std.specs.List.{list_all, zip}
use Rattle.std.proofs.lemmas.List.{append-nil}
use Rattle.std.proofs.lemmas.Slice.Eq.{bytes_eq-Decides}
use Rattle.std.proofs.lemmas.Str.{length-encode, len_utf8_bounds}
use Rattle.go_base.specs.Characters.{BeginsPassing, IsRun, is_letter, is_name_character, run_end, run_more}
use Rattle.go_base.specs.Keywords.{keywords}
use Rattle.go_model.specs.files.BuildTags.{is_one_of}
use Rattle.go_syntax.specs.declared.token.LexemeKind.{LexemeKind}
use Rattle.go_syntax.specs.declared.token.LexemeKind.TheVariants as lexeme
use Rattle.go_syntax.specs.declared.token.TokenKind.{TokenKind}
use Rattle.go_syntax.specs.declared.token.TokenKind.TheVariants as token
use Rattle.go_syntax.specs.declared.token.TokenValue.{TokenValue}
use Rattle.go_syntax.specs.lexical.Lexemes.{Begins, BeginsLongest, IsLexeme, Lexeme, blank, float, imaginary, integer, name, newline, opens_comment, operator, plain_value, raw_string, rune, string}
use Rattle.go_syntax.specs.lexical.Words.{KindTable, keyword_kinds, keyword_table, kind_in, name_kind, operators, operators_of_one, operators_of_three, operators_of_two}
use Rattle.go_lex.specs.inner.NamePrefixes.{IsName}

-- ---- tables of words

both : (a b : Bool) → (a && b) ≡ true → (a ≡ true) × (b ≡ true)
both true b h = (refl, h)
both false b h = absurd (cc)

not_true : (b : Bool) → not b ≡ true → b ≡ false
not_true true h = absurd (cc)
not_true false h = refl

no_row : (kind : TokenKind) → ◌≡◌ {A = Option TokenKind} None (Some kind) → ⊥
no_row kind e = absurd (cc)

one_row : (j k : TokenKind) → ◌≡◌ {A = Option TokenKind} (Some j) (Some k) → j ≡ k
one_row j k e = cc

-- what holds of each row holds of a text and its kind
in_rows : (test : List ℕ → TokenKind → Bool) (table : KindTable) (text : List ℕ) (kind : TokenKind) → list_all (λ row. test row.0 row.1) table ≡ true → kind_in table text ≡ Some kind → test text kind ≡ true
in_rows test [] text kind h e = absurd (no_row kind e)
in_rows test (row ∷ rows) text kind h e =
    let parts = both (test row.0 row.1) (list_all (λ r. test r.0 r.1) rows) h in
    elim (bytes_eq text row.0) as (λ t. bytes_eq text row.0 ≡ t → test text kind ≡ true) [
      | true ↦ (λ s.
          let found : row.1 ≡ kind = one_row row.1 kind (rw s at e) in
          subst (λ (xs : List ℕ). test xs kind ≡ true) (sym ((bytes_eq-Decides text row.0).0 s)) (subst (λ k. test row.0 k ≡ true) found parts.0))
      | false ↦ (λ s. in_rows test rows text kind parts.1 (rw s at e))
    ]
    refl

-- `package`, or a name that is no keyword
is_word : TokenKind → Bool
is_word token.PackageWord = true
is_word token.Ident = true
is_word k = false

is_package : TokenKind → Bool
is_package token.PackageWord = true
is_package k = false

is_ident : TokenKind → Bool
is_ident token.Ident = true
is_ident k = false

no_operator : List ℕ → TokenKind → Bool
no_operator text k = not (is_word k)

package_alone : List ℕ → TokenKind → Bool
package_alone text k = not (is_package k) || bytes_eq text (codes "package")

no_identifier : List ℕ → TokenKind → Bool
no_identifier text k = not (is_ident k)

operator_rows : list_all (λ row. no_operator row.0 row.1) operators ≡ true
unfolding no_operator is_word operators_of_three operators_of_two operators_of_one
operator_rows = refl

package_rows : list_all (λ row. package_alone row.0 row.1) keyword_table ≡ true
unfolding package_alone is_package keywords keyword_kinds
package_rows = refl

keyword_rows : list_all (λ row. no_identifier row.0 row.1) keyword_table ≡ true
unfolding no_identifier is_ident keywords keyword_kinds
keyword_rows = refl

as_many : length keywords ≡ length keyword_kinds
unfolding keywords keyword_kinds
as_many = refl

-- a word that a table of words with kinds doesn't have is none of them
none_of : (ws : List (List ℕ)) (ks : List TokenKind) (text : List ℕ) → length ws ≡ length ks → kind_in (zip ws ks) text ≡ None → is_one_of ws text ≡ false
none_of [] ks text l e = refl
none_of (w ∷ ws) [] text l e = absurd (omega (arith, l))
none_of (w ∷ ws) (k ∷ ks) text l e =
    elim (bytes_eq text w) as (λ t. bytes_eq text w ≡ t → (t || is_one_of ws text) ≡ false) [
      | true ↦ (λ s. absurd (no_row k (sym (rw s at e))))
      | false ↦ (λ s. none_of ws ks text (omega (arith, l)) (rw s at e))
    ]
    refl

package_kind : (text : List ℕ) (o : Option TokenKind) → kind_in keyword_table text ≡ o → name_kind text ≡ token.PackageWord → text ≡ codes "package"
unfolding package_alone is_package
package_kind text None e k = let f : token.Ident ≡ token.PackageWord = sym (ap (λ o. unwrap_or o token.Ident) e) ∙ k in absurd (cc)
package_kind text (Some j) e k =
    let f : j ≡ token.PackageWord = sym (ap (λ o. unwrap_or o token.Ident) e) ∙ k in
    let h : package_alone text token.PackageWord ≡ true = in_rows package_alone keyword_table text token.PackageWord package_rows (e ∙ ap Some f) in
    (bytes_eq-Decides text (codes "package")).0 h

ident_word : (text : List ℕ) (o : Option TokenKind) → kind_in keyword_table text ≡ o → name_kind text ≡ token.Ident → is_one_of keywords text ≡ false
unfolding no_identifier is_ident
ident_word text None e k = none_of keywords keyword_kinds text as_many e
ident_word text (Some j) e k =
    let f : j ≡ token.Ident = sym (ap (λ o. unwrap_or o token.Ident) e) ∙ k in
    let h : no_identifier text token.Ident ≡ true = in_rows no_identifier keyword_table text token.Ident keyword_rows (e ∙ ap Some f) in
    absurd (let g : false ≡ true = h in cc)

-- the word `package`, and a name that is no keyword
pub is_package_text : (text : List ℕ) → name_kind text ≡ token.PackageWord → text ≡ codes "package"
is_package_text text k = package_kind text (kind_in keyword_table text) refl k

pub no_keyword : (text : List ℕ) → name_kind text ≡ token.Ident → is_one_of keywords text ≡ false
no_keyword text k = ident_word text (kind_in keyword_table text) refl k

-- ---- lexemes

same_token : (j k : TokenKind) → ◌≡◌ {A = LexemeKind} (lexeme.Token j) (lexeme.Token k) → j ≡ k
same_token j k e = cc

no_blank : (k : TokenKind) → ◌≡◌ {A = LexemeKind} lexeme.Blank (lexeme.Token k) → ⊥
no_blank k e = absurd (cc)

no_newline : (k : TokenKind) → ◌≡◌ {A = LexemeKind} lexeme.Newline (lexeme.Token k) → ⊥
no_newline k e = absurd (cc)

-- a word's lexeme is a name
pub record NamedAs (v : TokenValue) (text : List ℕ) (k : TokenKind) : Type 0 where
  pub is_name : IsName text
  pub kind : name_kind text ≡ k
  pub said : v ≡ plain_value k text

not_word : (j k : TokenKind) → ◌≡◌ {A = LexemeKind} (lexeme.Token j) (lexeme.Token k) → is_word j ≡ false → is_word k ≡ true → ⊥
not_word j k e f g = let h : true ≡ false = sym g ∙ sym (ap is_word (same_token j k e)) ∙ f in absurd (cc)

no_word_sign : (text : List ℕ) (k : TokenKind) → kind_in operators text ≡ Some k → is_word k ≡ false
unfolding no_operator
no_word_sign text k e = not_true (is_word k) (in_rows no_operator operators text k operator_rows e)

word_name : (l : LexemeKind) (v : TokenValue) (text : List ℕ) (k : TokenKind) → IsLexeme l v text → l ≡ lexeme.Token k → is_word k ≡ true → NamedAs v text k
unfolding is_word
word_name l v text k (blank h) e w = absurd (no_blank k e)
word_name l v text k newline e w = absurd (no_newline k e)
word_name l v text k (name c cs a s d j) e w = let f = same_token (name_kind text) k e in record { is_name = (c, cs, a, s, d, j); kind = f; said = ap (λ x. plain_value x text) f }
word_name l v text k (operator {kind = j} h) e w = absurd (not_word j k e (no_word_sign text j h) w)
word_name l v text k (integer h) e w = absurd (not_word token.IntLit k e refl w)
word_name l v text k (float h) e w = absurd (not_word token.FloatLit k e refl w)
word_name l v text k (imaginary h) e w = absurd (not_word token.ImagLit k e refl w)
word_name l v text k (rune h) e w = absurd (not_word token.RuneLit k e refl w)
word_name l v text k (string h) e w = absurd (not_word token.StrLit k e refl w)
word_name l v text k (raw_string t a b) e w = absurd (not_word token.StrLit k e refl w)

pub package_name : (l : LexemeKind) (v : TokenValue) (text : List ℕ) → IsLexeme l v text → l ≡ lexeme.Token token.PackageWord → NamedAs v text token.PackageWord
unfolding is_word
package_name l v text h e = word_name l v text token.PackageWord h e refl

pub ident_name : (l : LexemeKind) (v : TokenValue) (text : List ℕ) → IsLexeme l v text → l ≡ lexeme.Token token.Ident → NamedAs v text token.Ident
unfolding is_word
ident_name l v text h e = word_name l v text token.Ident h e refl

-- ---- where a name ends

or_left : (a b : Bool) → a ≡ true → (a || b) ≡ true
or_left true b h = refl
or_left false b h = absurd (cc)

letter_in_names : (c : ℕ) → is_letter c ≡ true → is_name_character c ≡ true
letter_in_names c h = or_left (is_letter c) _ h

-- one character more, and any rest that begins with none
run_longer : (test : ℕ → Bool) (cs : List ℕ) (c : ℕ) → IsRun test cs [] → test c ≡ true → IsScalar c → IsRun test (cs ++ (encode_utf8 c ++ [])) []
run_longer test cs c (run_end none) t s = run_more t s (run_end none)
run_longer test cs c (run_more {c = d} {front = front} u z r) t s = subst (λ w. IsRun test w []) (sym (append_assoc (encode_utf8 d) front (encode_utf8 c ++ []))) (run_more u z (run_longer test front c r t s))

run_onto : (test : ℕ → Bool) (cs after : List ℕ) → IsRun test cs [] → (BeginsPassing test after → ⊥) → IsRun test cs after
run_onto test cs after (run_end n) none = run_end none
run_onto test cs after (run_more {front = front} u z r) none = run_more u z (run_onto test front after r none)

pub name_run : (text after : List ℕ) → IsName text → (BeginsPassing is_name_character after → ⊥) → IsRun is_name_character text after
name_run text after n none = subst (λ w. IsRun is_name_character w after) (sym n.5) (run_more (letter_in_names n.0 n.2) n.3 (run_onto is_name_character n.1 after n.4 none))

longer_name : (text : List ℕ) (c : ℕ) → IsName text → is_name_character c ≡ true → IsScalar c → IsName (text ++ (encode_utf8 c ++ []))
longer_name text c n t s = (n.0, n.1 ++ (encode_utf8 c ++ []), n.2, n.3, run_longer is_name_character n.1 c n.4 t s, ap (λ w. w ++ (encode_utf8 c ++ [])) n.5 ∙ append_assoc (encode_utf8 n.0) n.1 (encode_utf8 c ++ []))

as_lexeme : List ℕ → Lexeme
as_lexeme text = record { kind = lexeme.Token (name_kind text); value = plain_value (name_kind text) text; text = text }

begins_longer : (bytes text after : List ℕ) → bytes ≡ text ++ after → opens_comment bytes ≡ false → IsName text → (b : BeginsPassing is_name_character after) → Begins bytes (as_lexeme (text ++ (encode_utf8 b.0 ++ []))) b.1
unfolding as_lexeme
begins_longer bytes text after e closed n b =
    let m = longer_name text b.0 n b.2 b.3 in
    record {
      joined = e ∙ ap (λ w. text ++ w) (b.4 ∙ ap (λ w. w ++ b.1) (sym (append-nil (encode_utf8 b.0)))) ∙ sym (append_assoc text (encode_utf8 b.0 ++ []) b.1);
      stands = inr (closed, name m.0 m.1 m.2 m.3 m.4 m.5);
    }

longer_text : (text : List ℕ) → (as_lexeme text).text ≡ text
unfolding as_lexeme
longer_text text = refl

-- behind the longest name no character of a name follows
pub name_ends : (bytes : List ℕ) (x : Lexeme) (after : List ℕ) → BeginsLongest bytes x after → opens_comment bytes ≡ false → IsName x.text → BeginsPassing is_name_character after → ⊥
name_ends bytes x after b closed n p =
    let longer = x.text ++ (encode_utf8 p.0 ++ []) in
    let most : length (as_lexeme longer).text ≤ length x.text = b.longest (as_lexeme longer) p.1 (begins_longer bytes x.text after b.begins.joined closed n p) in
    let least : length longer ≤ length x.text = subst (λ w. length w ≤ length x.text) (longer_text longer) most in
    absurd (omega (arith, least, length-append x.text (encode_utf8 p.0 ++ []), length-append (encode_utf8 p.0) [], length-encode p.0, (len_utf8_bounds p.0).0))
