-- White space and comments before the first token: as lexemes, and as pieces of a header.
use Rattle.std.proofs.Common.{◌≡◌, ◌⊎◌, inl, inr, ℕ, ◌+◌, Bool, true, false, ◌||◌, ◌&&◌, ◌==◌, List, [], ◌∷◌, ◌++◌, length, take, drop, refl, sym, ap, ◌∙◌, subst, arith, Option, Some, None, if◌then◌else◌}
use Rattle.std.specs.Prelude.{codes}
use Rattle.std.specs.List.{list_any}
use Rattle.std.proofs.lemmas.Bool.Decides.{nat_tests}
use Rattle.std.proofs.lemmas.List.{drop_at}
use Rattle.go_base.specs.Comments.{IsFront, comment_len, front_end, front_more, is_space, piece_len, starts_with}
use Rattle.go_syntax.specs.declared.token.LexemeKind.{LexemeKind}
use Rattle.go_syntax.specs.declared.token.LexemeKind.TheVariants as lexeme
use Rattle.go_syntax.specs.declared.token.Token.{Token}
use Rattle.go_syntax.specs.declared.token.TokenKind.{TokenKind}
use Rattle.go_syntax.specs.declared.token.TokenValue.{TokenValue}
use Rattle.go_syntax.specs.lexical.Lexemes.{Begins, BeginsLongest, CutTo, IsLexeme, Lexeme, blank, float, here, imaginary, integer, is_space_in_line, name, newline, next, opens_comment, operator, raw_string, rune, string}
use Rattle.go_syntax.specs.lexical.Tokens.{ends_line, lexeme_tokens, pending_after, tokens_of}
use Rattle.go_lex.specs.inner.Starts.{start_of}
use Rattle.go_lex.proofs.LexemeClasses.{Class, classed, is_byte, opens_is}
use Rattle.go_lex.proofs.LongestByClass.{comment_opens}

abbrev pub is_token : LexemeKind → Bool
is_token (lexeme.Token k) = true
is_token k = false

pub first_same : {A : Type 0} {x y : A} {xs ys : List A} → ◌≡◌ {A = List A} (x ∷ xs) (y ∷ ys) → x ≡ y
first_same e = cc

pub rest_same : {A : Type 0} {x y : A} {xs ys : List A} → ◌≡◌ {A = List A} (x ∷ xs) (y ∷ ys) → xs ≡ ys
rest_same e = cc

pub no_items : {A : Type 0} {y : A} {ys : List A} → ◌≡◌ {A = List A} [] (y ∷ ys) → ⊥
no_items e = absurd (cc)

opposite : {b : Bool} → b ≡ true → b ≡ false → ⊥
opposite e f = let g : true ≡ false = sym e ∙ f in absurd (cc)

and_first : (a b : Bool) → (a && b) ≡ true → a ≡ true
and_first true b e = refl
and_first false b e = e

or_none : (a b : Bool) → (a || b) ≡ false → (a ≡ false) × (b ≡ false)
or_none true b e = absurd (cc)
or_none false b e = (refl, e)

-- ---- bytes

in_line_space : (c : ℕ) → is_space_in_line c ≡ true → is_space c ≡ true
in_line_space c h = grind (arith, nat_tests)

space_in_line : (c : ℕ) → is_space c ≡ true → (c == 10) ≡ false → is_space_in_line c ≡ true
space_in_line c h n = grind (arith, nat_tests)

-- white space in a line begins what a space does, and a line end what one alone does
line_starts : (c : ℕ) (cs : List ℕ) → is_space_in_line c ≡ true → start_of (c ∷ cs) ≡ start_of (32 ∷ [])
unfolding start_of
line_starts c cs h = rw h refl

newline_starts : (cs : List ℕ) → start_of (10 ∷ cs) ≡ start_of (10 ∷ [])
unfolding start_of
newline_starts cs = refl

-- a space begins white space alone
space_starts : (c : ℕ) (cs : List ℕ) (b : Bool) → (c == 10) ≡ b → is_space c ≡ true → (start_of (c ∷ cs) ≡ start_of (32 ∷ [])) ⊎ (start_of (c ∷ cs) ≡ start_of (10 ∷ []))
space_starts c cs true n h = inr (ap (λ x. start_of (x ∷ cs)) (is_byte c 10 n) ∙ newline_starts cs)
space_starts c cs false n h = inl (line_starts c cs (space_in_line c h n))

slash_no_space : (c : ℕ) (cs : List ℕ) → opens_comment (c ∷ cs) ≡ true → is_space c ≡ false
slash_no_space c cs e = subst (λ x. is_space x ≡ false) (sym (is_byte c 47 (and_first (c == 47) _ (sym (opens_is c cs) ∙ e)))) refl

no_comment : (n : ℕ) → comment_len [] ≡ Some n → ⊥
unfolding comment_len
no_comment n e = absurd (let none : ◌≡◌ {A = Option ℕ} None (Some n) = e in cc)

comment_none : (bytes : List ℕ) → opens_comment bytes ≡ false → comment_len bytes ≡ None
unfolding comment_len
comment_none bytes h = let f = or_none (starts_with (codes "//") bytes) (starts_with (codes "/*") bytes) h in rw (f.0, f.1) refl

-- ---- pieces

comment_piece : (bytes : List ℕ) (n : ℕ) → comment_len bytes ≡ Some n → piece_len bytes ≡ Some n
comment_piece [] n e = absurd (no_comment n e)
comment_piece (c ∷ cs) n e = ap (λ b. if b then Some 1 else comment_len (c ∷ cs)) (slash_no_space c cs (comment_opens (c ∷ cs) n e)) ∙ e

blank_piece : (text after : List ℕ) (c : ℕ) → text ≡ c ∷ [] → is_space c ≡ true → piece_len (text ++ after) ≡ Some (length text)
blank_piece text after c e s = subst (λ t. piece_len (t ++ after) ≡ Some (length t)) (sym e) (ap (λ b. if b then Some 1 else comment_len (c ∷ after)) s)

-- a lexeme that is no token and no comment is a byte of white space
blank_text : (k : LexemeKind) (v : TokenValue) (text : List ℕ) → IsLexeme k v text → is_token k ≡ false → (c : ℕ) × (text ≡ c ∷ []) × (is_space c ≡ true)
blank_text k v text (blank {b = c} h) e = (c, refl, in_line_space c h)
blank_text k v text newline e = (10, refl, refl)
blank_text k v text (name c cs l s r j) e = absurd (cc)
blank_text k v text (operator h) e = absurd (cc)
blank_text k v text (integer h) e = absurd (cc)
blank_text k v text (float h) e = absurd (cc)
blank_text k v text (imaginary h) e = absurd (cc)
blank_text k v text (rune h) e = absurd (cc)
blank_text k v text (string h) e = absurd (cc)
blank_text k v text (raw_string t a b) e = absurd (cc)

-- so it is a piece
silent_piece : (bytes : List ℕ) (x : Lexeme) (after : List ℕ) → Begins bytes x after → is_token x.kind ≡ false → piece_len bytes ≡ Some (length x.text)
silent_piece bytes x after b e = elim b.stands [
  | inl c ↦ comment_piece bytes (length x.text) c.len
  | inr p ↦ (let f = blank_text x.kind x.value x.text p.1 e in subst (λ w. piece_len w ≡ Some (length x.text)) (sym b.joined) (blank_piece x.text after f.0 f.1 f.2))
]

no_comment_token : (b : Bool) → is_token (if b then lexeme.Newline else lexeme.Blank) ≡ false
no_comment_token true = refl
no_comment_token false = refl

line_silent : (bytes : List ℕ) (k : LexemeKind) (v : TokenValue) (text : List ℕ) → Class (start_of (32 ∷ [])) bytes k v text → is_token k ≡ false
unfolding start_of
line_silent bytes k v text d = ap is_token d.1

newline_silent : (bytes : List ℕ) (k : LexemeKind) (v : TokenValue) (text : List ℕ) → Class (start_of (10 ∷ [])) bytes k v text → is_token k ≡ false
unfolding start_of
newline_silent bytes k v text d = ap is_token d.1

class_silent : (c : ℕ) (cs : List ℕ) (k : LexemeKind) (v : TokenValue) (text : List ℕ) → (start_of (c ∷ cs) ≡ start_of (32 ∷ [])) ⊎ (start_of (c ∷ cs) ≡ start_of (10 ∷ [])) → Class (start_of (c ∷ cs)) (c ∷ cs) k v text → is_token k ≡ false
class_silent c cs k v text (inl e) d = line_silent (c ∷ cs) k v text (subst (λ t. Class t (c ∷ cs) k v text) e d)
class_silent c cs k v text (inr e) d = newline_silent (c ∷ cs) k v text (subst (λ t. Class t (c ∷ cs) k v text) e d)

no_space : (c : ℕ) (cs : List ℕ) (k : LexemeKind) (v : TokenValue) (text : List ℕ) → Class (start_of (c ∷ cs)) (c ∷ cs) k v text → is_token k ≡ true → (b : Bool) → is_space c ≡ b → b ≡ false
no_space c cs k v text d e true s = absurd (opposite e (class_silent c cs k v text (space_starts c cs (c == 10) refl s) d))
no_space c cs k v text d e false s = refl

class_piece : (bytes : List ℕ) (k : LexemeKind) (v : TokenValue) (text : List ℕ) → Class (start_of bytes) bytes k v text → opens_comment bytes ≡ false → is_token k ≡ true → piece_len bytes ≡ None
class_piece [] k v text d o e = refl
class_piece (c ∷ cs) k v text d o e = ap (λ b. if b then Some 1 else comment_len (c ∷ cs)) (no_space c cs k v text d e (is_space c) refl) ∙ comment_none (c ∷ cs) o

-- a token is no piece
token_piece : (bytes : List ℕ) (x : Lexeme) (after : List ℕ) → Begins bytes x after → is_token x.kind ≡ true → piece_len bytes ≡ None
token_piece bytes x after b e = elim b.stands [
  | inl c ↦ absurd (opposite e (ap is_token c.kind_is ∙ no_comment_token (starts_with (codes "//") x.text || list_any (λ z. z == 10) x.text)))
  | inr p ↦ (
      let d = classed x.kind x.value x.text after p.1 (subst (λ w. opens_comment w ≡ false) b.joined p.0) in
      class_piece bytes x.kind x.value x.text (subst (λ w. Class (start_of w) w x.kind x.value x.text) (sym b.joined) d) p.0 e
      )
]

-- ---- the first token

-- the bytes are pieces, and then the first of the tokens, longest at its place, and lexemes of the others
pub record Opens (bytes : List ℕ) (t : Token) (ts : List Token) : Type 0 where
  pub pieces : List (List ℕ)
  pub rest : List ℕ
  pub front : IsFront bytes pieces rest
  pub word : Lexeme
  pub after : List ℕ
  pub stands : BeginsLongest rest word after
  pub is : word.kind ≡ lexeme.Token t.kind
  pub said : t.value ≡ word.value
  pub later : List Lexeme
  pub cut : CutTo after later []
  pub start : ℕ
  pub others : ts ≡ tokens_of start (if ends_line t.kind then Some start else None) later

-- behind one piece more
opens_more : (bytes : List ℕ) (x : Lexeme) (after : List ℕ) (t : Token) (ts : List Token) → Begins bytes x after → is_token x.kind ≡ false → Opens after t ts → Opens bytes t ts
opens_more bytes x after t ts b e o = record {
  pieces = take (length x.text) bytes ∷ o.pieces;
  rest = o.rest;
  front = front_more (silent_piece bytes x after b e) (subst (λ w. IsFront w o.pieces o.rest) (sym (ap (drop (length x.text)) b.joined ∙ drop_at x.text after (length x.text) refl)) o.front);
  word = o.word;
  after = o.after;
  stands = o.stands;
  is = o.is;
  said = o.said;
  later = o.later;
  cut = o.cut;
  start = o.start;
  others = o.others;
}

-- the tokens of a token's lexeme
token_first : (s : ℕ) (x : Lexeme) (xs : List Lexeme) (k : TokenKind) → x.kind ≡ lexeme.Token k
    → tokens_of s None (x ∷ xs) ≡ record { kind = k; start = s; end = s + length x.text; inserted = false; value = x.value } ∷ tokens_of (s + length x.text) (if ends_line k then Some (s + length x.text) else None) xs
token_first s x xs k e = ap (λ y. lexeme_tokens y x.value (length x.text) s None ++ tokens_of (s + length x.text) (pending_after y (s + length x.text) None) xs) e

silent_first : (s : ℕ) (x : Lexeme) (xs : List Lexeme) (k : LexemeKind) → x.kind ≡ k → is_token k ≡ false → tokens_of s None (x ∷ xs) ≡ tokens_of (s + length x.text) None xs
silent_first s x xs lexeme.Blank e n = ap (λ y. lexeme_tokens y x.value (length x.text) s None ++ tokens_of (s + length x.text) (pending_after y (s + length x.text) None) xs) e
silent_first s x xs lexeme.Newline e n = ap (λ y. lexeme_tokens y x.value (length x.text) s None ++ tokens_of (s + length x.text) (pending_after y (s + length x.text) None) xs) e
silent_first s x xs (lexeme.Token k) e n = absurd (cc)

opens_here : (bytes : List ℕ) (s : ℕ) (x : Lexeme) (after : List ℕ) (xs : List Lexeme) (k : TokenKind) (t : Token) (ts : List Token) → BeginsLongest bytes x after → CutTo after xs [] → x.kind ≡ lexeme.Token k → tokens_of s None (x ∷ xs) ≡ t ∷ ts → Opens bytes t ts
opens_here bytes s x after xs k t ts b cut e f =
    let both = sym (token_first s x xs k e) ∙ f in
    let same = first_same both in
    let kinds : k ≡ t.kind = ap (λ (y : Token). y.kind) same in
    record {
      pieces = [];
      rest = bytes;
      front = front_end (token_piece bytes x after b.begins (ap is_token e));
      word = x;
      after = after;
      stands = b;
      is = e ∙ ap lexeme.Token kinds;
      said = sym (ap (λ (y : Token). y.value) same);
      later = xs;
      cut = cut;
      start = s + length x.text;
      others = sym (rest_same both) ∙ ap (λ j. tokens_of (s + length x.text) (if ends_line j then Some (s + length x.text) else None) xs) kinds;
    }

opens_by : (bytes : List ℕ) (x : Lexeme) (after : List ℕ) (ys : List Lexeme) → BeginsLongest bytes x after → CutTo after ys [] → ((s : ℕ) (t : Token) (ts : List Token) → tokens_of s None ys ≡ t ∷ ts → Opens after t ts)
    → (k : LexemeKind) → x.kind ≡ k → (s : ℕ) (t : Token) (ts : List Token) → tokens_of s None (x ∷ ys) ≡ t ∷ ts → Opens bytes t ts
opens_by bytes x after ys b cut h (lexeme.Token k) j s t ts e = opens_here bytes s x after ys k t ts b cut j e
opens_by bytes x after ys b cut h lexeme.Blank j s t ts e = opens_more bytes x after t ts b.begins (ap is_token j) (h (s + length x.text) t ts (sym (silent_first s x ys lexeme.Blank j refl) ∙ e))
opens_by bytes x after ys b cut h lexeme.Newline j s t ts e = opens_more bytes x after t ts b.begins (ap is_token j) (h (s + length x.text) t ts (sym (silent_first s x ys lexeme.Newline j refl) ∙ e))

pub opens : (bytes : List ℕ) (xs : List Lexeme) → CutTo bytes xs [] → (s : ℕ) (t : Token) (ts : List Token) → tokens_of s None xs ≡ t ∷ ts → Opens bytes t ts
opens bytes xs here s t ts e = absurd (no_items e)
opens bytes xs (next {x = x} {after = after} {lexemes = ys} b cut) s t ts e = opens_by bytes x after ys b cut (λ z u us f. opens after ys cut z u us f) x.kind refl s t ts e
