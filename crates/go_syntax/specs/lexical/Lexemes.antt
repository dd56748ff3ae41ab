-- The lexemes of a Go source file, and the cut of its bytes into longest ones. A lexeme is a character of white space, a
-- comment or a token.
-- Public source: Go specification, "Source code representation" and "Lexical elements".
-- In crate go_lex, proofs/LongestByClass.antt shows that the scanner takes the longest lexeme, and
-- proofs/OneCut.antt that a text has one cut.
use Rattle.std.specs.Prelude.{◌≡◌, ◌≢◌, ◌≤◌, ◌-◌, ◌⊎◌, ℕ, Bool, ◌||◌, ◌==◌, not, true, false, if◌then◌else◌, Some, pos, nat_lt, ◌^◌, List, [], ◌∷◌, ◌++◌, length, codes}
use Rattle.std.specs.List.{list_any, list_all}
use Rattle.std.specs.Char.{IsScalar, encode_utf8}
use Rattle.go_base.specs.Characters.{is_letter, is_name_character, IsRun}
use Rattle.go_base.specs.Comments.{starts_with, comment_len, is_text, without_mark}
use Rattle.go_syntax.specs.lexical.Numbers.{IsInteger, IsFloat, IsMultiple, integer_value}
use Rattle.go_syntax.specs.lexical.Quotes.{meaning_number, IsCharacter, AreCharacters, raw_bytes}
use Rattle.go_syntax.specs.lexical.Words.{kind_in, operators, name_kind}
use Rattle.go_syntax.specs.declared.token.Meaning.{Meaning}
use Rattle.go_syntax.specs.declared.token.TokenKind.{TokenKind}
use Rattle.go_syntax.specs.declared.token.TokenKind.TheVariants as token
use Rattle.go_syntax.specs.declared.token.TokenValue.{TokenValue}
use Rattle.go_syntax.specs.declared.token.TokenValue.TheVariants as value
use Rattle.go_syntax.specs.declared.token.LexemeKind.{LexemeKind}
use Rattle.go_syntax.specs.declared.token.LexemeKind.TheVariants as lexeme

-- a space, a tab or a carriage return
abbrev pub is_space_in_line : ℕ → Bool
is_space_in_line b = b == 32 || (b == 9 || b == 13)

-- a whole number as a token's value
abbrev pub number_value : ℕ → TokenValue
number_value n = if nat_lt n (2 ^ 127) then value.Number (pos n) else value.Wide

-- what a token of this kind and text says, where that needs no decoding
abbrev pub plain_value : TokenKind → List ℕ → TokenValue
plain_value token.Ident text = value.Ident text
plain_value token.IntLit text = number_value (integer_value text)
plain_value _ text = value.Nothing

-- a text between such quotes
abbrev pub quoted : ℕ → List ℕ → List ℕ
quoted quote text = quote ∷ (text ++ (quote ∷ []))

-- a lexeme that is no comment: what it is, what it says and its text
pub data IsLexeme : LexemeKind → TokenValue → List ℕ → Type 0 where
  blank : {b : ℕ} → is_space_in_line b ≡ true → IsLexeme lexeme.Blank value.Nothing (b ∷ [])
  newline : IsLexeme lexeme.Newline value.Nothing (10 ∷ [])
  name : {text : List ℕ} (c : ℕ) (cs : List ℕ) → is_letter c ≡ true → IsScalar c → IsRun is_name_character cs [] → text ≡ encode_utf8 c ++ cs →
      IsLexeme (lexeme.Token (name_kind text)) (plain_value (name_kind text) text) text
  operator : {kind : TokenKind} {text : List ℕ} → kind_in operators text ≡ Some kind → IsLexeme (lexeme.Token kind) (plain_value kind text) text
  integer : {text : List ℕ} → IsInteger text → IsLexeme (lexeme.Token token.IntLit) (plain_value token.IntLit text) text
  float : {text : List ℕ} → IsFloat text → IsLexeme (lexeme.Token token.FloatLit) value.Nothing text
  imaginary : {text : List ℕ} → IsMultiple text → IsLexeme (lexeme.Token token.ImagLit) value.Nothing (text ++ (105 ∷ []))
  rune : {text : List ℕ} {meaning : Meaning} → IsCharacter 39 text meaning → IsLexeme (lexeme.Token token.RuneLit) (value.Rune (meaning_number meaning)) (quoted 39 text)
  string : {text bytes : List ℕ} → AreCharacters 34 text bytes → IsLexeme (lexeme.Token token.StrLit) (value.Str bytes) (quoted 34 text)
  raw_string : (text : List ℕ) → is_text text ≡ true → list_all (λ b. not (b == 96)) text ≡ true →
      IsLexeme (lexeme.Token token.StrLit) (value.Str (raw_bytes text)) (quoted 96 text)

-- a lexeme of a cut
pub record Lexeme : Type 0 where
  pub kind : LexemeKind
  pub value : TokenValue
  pub text : List ℕ

-- `//` or `/*` stands here
abbrev pub opens_comment : List ℕ → Bool
opens_comment bytes = starts_with (codes "//") bytes || starts_with (codes "/*") bytes

-- a line comment acts like a newline, and so does a general comment that holds one
abbrev pub comment_kind : List ℕ → LexemeKind
comment_kind text = if starts_with (codes "//") text || list_any (λ b. b == 10) text then lexeme.Newline else lexeme.Blank

-- the lexeme is the comment that the bytes begin with: a line comment up to the end of its line, a
-- general comment up to its first `*/`, either of UTF-8 without NUL
pub record IsComment (bytes : List ℕ) (x : Lexeme) : Type 0 where
  pub len : comment_len bytes ≡ Some (length x.text)
  pub kind_is : x.kind ≡ comment_kind x.text
  pub silent : x.value ≡ value.Nothing

-- the lexeme stands at the front of the bytes: where a comment opens, only a comment does
abbrev pub Stands : List ℕ → Lexeme → Type 0
Stands bytes x = IsComment bytes x ⊎ ((opens_comment bytes ≡ false) × IsLexeme x.kind x.value x.text)

-- the bytes begin with this lexeme, and then come the rest
pub record Begins (bytes : List ℕ) (x : Lexeme) (rest : List ℕ) : Type 0 where
  pub joined : bytes ≡ x.text ++ rest
  pub stands : Stands bytes x

-- the bytes begin with this lexeme, and with no longer one
pub record BeginsLongest (bytes : List ℕ) (x : Lexeme) (rest : List ℕ) : Type 0 where
  pub begins : Begins bytes x rest
  pub longest : (other : Lexeme) (more : List ℕ) → Begins bytes other more → length other.text ≤ length x.text

-- the bytes begin with no lexeme
abbrev pub BeginsNone : List ℕ → Type 0
BeginsNone bytes = (x : Lexeme) (rest : List ℕ) → Begins bytes x rest → ⊥

-- the bytes are these lexemes, each the longest at its place, and then the rest
pub data CutTo : List ℕ → List Lexeme → List ℕ → Type 0 where
  here : {bytes : List ℕ} → CutTo bytes [] bytes
  next : {bytes : List ℕ} {x : Lexeme} {after : List ℕ} {lexemes : List Lexeme} {rest : List ℕ} →
      BeginsLongest bytes x after → CutTo after lexemes rest → CutTo bytes (x ∷ lexemes) rest

-- the offset at which the cut of a file, behind a byte order mark at its start, stops before the end: there no lexeme begins
pub record IsBadOffset (bytes : List ℕ) (at : ℕ) : Type 0 where
  pub lexemes : List Lexeme
  pub rest : List ℕ
  pub cut : CutTo (without_mark bytes) lexemes rest
  pub more : rest ≢ []
  pub none : BeginsNone rest
  pub offset : at ≡ length bytes - length rest
