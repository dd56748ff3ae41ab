-- A lexeme's text says one thing.
use Rattle.std.proofs.Common.{◌≡◌, inl, inr, ℕ, List, [], ◌∷◌, ◌++◌, length, drop, refl, sym, ap, ◌∙◌, subst, arith, length-append, true, false, Option, Some, None}
use Rattle.std.proofs.lemmas.List.{append-nil, drop_at}
use Rattle.std.specs.Char.{encode_utf8}
use Rattle.std.proofs.lemmas.Str.{length-encode, len_utf8_bounds}
use Rattle.go_syntax.specs.declared.token.Meaning.{Meaning}
use Rattle.go_syntax.specs.declared.token.TokenKind.{TokenKind}
use Rattle.go_syntax.specs.declared.token.TokenKind.TheVariants as token
use Rattle.go_syntax.specs.declared.token.TokenValue.{TokenValue}
use Rattle.go_syntax.specs.declared.token.TokenValue.TheVariants as value
use Rattle.go_syntax.specs.declared.token.LexemeKind.{LexemeKind}
use Rattle.go_syntax.specs.declared.token.LexemeKind.TheVariants as lexeme
use Rattle.go_syntax.specs.lexical.Quotes.{meaning_number, meaning_bytes, AreCharacters, no_character, character_more, raw_bytes}
use Rattle.go_syntax.specs.lexical.Words.{kind_in, operators, operators_of_three, operators_of_two, operators_of_one}
use Rattle.go_base.specs.Comments.{comment_len}
use Rattle.go_syntax.specs.lexical.Lexemes.{IsLexeme, blank, newline, name, operator, integer, float, imaginary, rune, string, raw_string, plain_value, quoted, Lexeme, Begins}
use Rattle.go_lex.specs.declared.longest.Start.{Start}
use Rattle.go_lex.specs.declared.longest.Start.TheVariants.{Blank, Newline, Comment, Number, Rune, Quoted, Raw, Name, Sign}
use Rattle.go_lex.specs.inner.NumberLengths.{number_at, IsNumber, int_number, float_number, imaginary_number}
use Rattle.go_lex.proofs.Escapes.{head_same, tail_same, character_once, character_some}
use Rattle.go_lex.proofs.Literals.{single, double}
use Rattle.go_lex.proofs.Numbers.{number_claim}
use Rattle.go_lex.proofs.LexemeClasses.{Class, number_begins}
use Rattle.go_lex.proofs.NumberStands.{number_stands}
use Rattle.go_lex.specs.inner.Starts.{begins_number}

last_same : (q : ℕ) (xs ys : List ℕ) → xs ++ (q ∷ []) ≡ ys ++ (q ∷ []) → xs ≡ ys
last_same q [] [] e = refl
last_same q [] (y ∷ ys) e = absurd (omega (arith, ap length e, length-append ys (q ∷ [])))
last_same q (x ∷ xs) [] e = absurd (omega (arith, ap length e, length-append xs (q ∷ [])))
last_same q (x ∷ xs) (y ∷ ys) e =
    let rest = last_same q xs ys (tail_same x y (xs ++ (q ∷ [])) (ys ++ (q ∷ [])) e) in
    let head = head_same x y (xs ++ (q ∷ [])) (ys ++ (q ∷ [])) e in
    cc

inner_same : (q : ℕ) (text a b : List ℕ) → text ≡ quoted q a → text ≡ quoted q b → a ≡ b
inner_same q text a b e f = last_same q a b (tail_same q q (a ++ (q ∷ [])) (b ++ (q ∷ [])) (sym e ∙ f))

drop_same : (x y r q : List ℕ) → x ≡ y → x ++ r ≡ y ++ q → r ≡ q
drop_same x y r q same e =
    sym (drop_at x r (length x) refl) ∙ ap (drop (length x)) e ∙ ap (λ (n : ℕ). drop n (y ++ q)) (ap length same) ∙ drop_at y q (length y) refl

-- characters stand for the same bytes
pub characters_once : (s t o p : List ℕ) → AreCharacters 34 s o → AreCharacters 34 t p → s ≡ t → o ≡ p
characters_once s t o p no_character no_character e = refl
characters_once s t o p no_character (character_more {text = x} {rest = r} {meaning = m} is a) e = absurd (omega (arith, ap length e, length-append x r, character_some 34 x m is))
characters_once s t o p (character_more {text = x} {rest = r} {meaning = m} is a) no_character e = absurd (omega (arith, ap length e, length-append x r, character_some 34 x m is))
characters_once s t o p (character_more {text = x} {rest = r} {bytes = u} {meaning = m} is a) (character_more {text = y} {rest = q} {bytes = w} {meaning = n} js b) e =
    let first = character_once 34 x y r q m n double is js e in
    let rest : r ≡ q = drop_same x y r q first.0 e in
    let more = characters_once r q u w a b rest in
    λ i. meaning_bytes (first.1 i) ++ more i

same_kind : (k j : TokenKind) → ◌≡◌ {A = Option TokenKind} (Some k) (Some j) → k ≡ j
same_kind k j e = cc

-- the whole text is the longest literal
number_size : (text : List ℕ) (k : TokenKind) → IsNumber k text → length text ≡ (number_at (text ++ [])).len
number_size text k p =
    let a = number_claim k text [] p in
    let at = number_stands (text ++ []) (number_begins k text [] p) in
    omega (arith, a.bound, at.within, ap length (append-nil text))

no_lone_point : (text : List ℕ) (k : TokenKind) → IsNumber k text → text ≡ 46 ∷ [] → ⊥
no_lone_point text k p e =
    let begins : begins_number (text ++ []) ≡ true = number_begins k text [] p in
    let none : false ≡ true = sym (ap (λ (xs : List ℕ). begins_number (xs ++ [])) e) ∙ begins in
    absurd (cc)

number_kinds : (text : List ℕ) (k j : TokenKind) → IsNumber k text → IsNumber j text → k ≡ j
number_kinds text k j p q =
    let a = number_claim k text [] p in
    let b = number_claim j text [] q in
    let size : length text ≡ (number_at (text ++ [])).len = number_size text k p in
    a.same size ∙ sym (b.same size)

pub class_once : (s : Start) (bytes text : List ℕ) (k j : LexemeKind) (v w : TokenValue) → Class s bytes k v text → Class s bytes j w text → (k ≡ j) × (v ≡ w)
class_once Blank bytes text k j v w a b = (a.1 ∙ sym b.1, a.2 ∙ sym b.2)
class_once Newline bytes text k j v w a b = (a.1 ∙ sym b.1, a.2 ∙ sym b.2)
class_once Comment bytes text k j v w a b = absurd a
class_once Number bytes text k j v w a b =
    elim a [
      | inl p ↦ elim b [
        | inl q ↦
            (let same = number_kinds text p.0 q.0 p.1 q.1 in
            (p.2 ∙ ap lexeme.Token same ∙ sym q.2, p.3 ∙ ap (λ (x : TokenKind). plain_value x text) same ∙ sym q.3))
        | inr q ↦ absurd (no_lone_point text p.0 p.1 q.0)
      ]
      | inr p ↦ elim b [
        | inl q ↦ absurd (no_lone_point text q.0 q.1 p.0)
        | inr q ↦
            (let same = same_kind p.1 q.1 (sym p.2 ∙ q.2) in
            (p.3 ∙ ap lexeme.Token same ∙ sym q.3, p.4 ∙ ap (λ (x : TokenKind). plain_value x text) same ∙ sym q.4))
      ]
    ]
class_once Rune bytes text k j v w a b =
    let inner = inner_same 39 text a.0 b.0 a.3 b.3 in
    let m = (character_once 39 a.0 b.0 [] [] a.1 b.1 single a.2 b.2 (ap (λ (xs : List ℕ). xs ++ []) inner)).1 in
    (a.4 ∙ sym b.4, a.5 ∙ ap (λ (x : Meaning). value.Rune (meaning_number x)) m ∙ sym b.5)
class_once Quoted bytes text k j v w a b =
    let out = characters_once a.0 b.0 a.1 b.1 a.2 b.2 (inner_same 34 text a.0 b.0 a.3 b.3) in
    (a.4 ∙ sym b.4, a.5 ∙ ap value.Str out ∙ sym b.5)
class_once Raw bytes text k j v w a b =
    let inner = inner_same 96 text a.0 b.0 a.3 b.3 in
    (a.4 ∙ sym b.4, a.5 ∙ ap (λ (xs : List ℕ). value.Str (raw_bytes xs)) inner ∙ sym b.5)
class_once Name bytes text k j v w a b = (a.1 ∙ sym b.1, a.2 ∙ sym b.2)
class_once Sign bytes text k j v w a b =
    let same = same_kind a.0 b.0 (sym a.1 ∙ b.1) in
    (a.2 ∙ ap lexeme.Token same ∙ sym b.2, a.3 ∙ ap (λ (x : TokenKind). plain_value x text) same ∙ sym b.3)

-- no lexeme is empty
no_row : (k : TokenKind) → kind_in operators [] ≡ Some k → ⊥
unfolding operators_of_three operators_of_two operators_of_one
no_row k e = absurd (let none : ◌≡◌ {A = Option TokenKind} None (Some k) = e in cc)

empty_number : (k : TokenKind) (text : List ℕ) → IsNumber k text → text ≡ [] → ⊥
empty_number k text p e =
    let begins : begins_number (text ++ []) ≡ true = number_begins k text [] p in
    let none : false ≡ true = sym (ap (λ (xs : List ℕ). begins_number (xs ++ [])) e) ∙ begins in
    absurd (cc)

not_empty : (k : LexemeKind) (v : TokenValue) (text : List ℕ) → IsLexeme k v text → text ≡ [] → ⊥
not_empty k v text (blank h) e = absurd (omega (arith, ap length e))
not_empty k v text newline e = absurd (omega (arith, ap length e))
not_empty k v text (name c cs l s r j) e = absurd (omega (arith, ap length (sym j ∙ e), length-append (encode_utf8 c) cs, length-encode c, (len_utf8_bounds c).0))
not_empty k v text (operator {kind = o} {text = t} row) e = no_row o (subst (λ (xs : List ℕ). kind_in operators xs ≡ Some o) e row)
not_empty k v text (integer {text = t} i) e = empty_number token.IntLit t (int_number i) e
not_empty k v text (float {text = t} f) e = empty_number token.FloatLit t (float_number f) e
not_empty k v text (imaginary {text = t} m) e = empty_number token.ImagLit (t ++ (105 ∷ [])) (imaginary_number m) e
not_empty k v text (rune r) e = absurd (omega (arith, ap length e))
not_empty k v text (string s) e = absurd (omega (arith, ap length e))
not_empty k v text (raw_string t a b) e = absurd (omega (arith, ap length e))

no_comment : (n : ℕ) → comment_len [] ≡ Some n → ⊥
unfolding comment_len
no_comment n e = absurd (let none : ◌≡◌ {A = Option ℕ} None (Some n) = e in cc)

front_empty : (xs ys : List ℕ) → [] ≡ xs ++ ys → xs ≡ []
front_empty [] ys e = refl
front_empty (x ∷ xs) ys e = absurd (omega (arith, ap length e))

-- nothing begins no bytes
pub nothing_begins : (x : Lexeme) (us : List ℕ) → Begins [] x us → ⊥
nothing_begins x us b = elim b.stands [ inl c ↦ no_comment (length x.text) c.len | inr p ↦ not_empty x.kind x.value x.text p.1 (front_empty x.text us b.joined) ]
