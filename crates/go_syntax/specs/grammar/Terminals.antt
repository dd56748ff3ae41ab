-- The terminal symbols of Go's grammar, and the one that a token is.
-- Public source: Go specification, "Tokens", "Operators and punctuation", and "BasicLit" of "Operands".
use Rattle.std.specs.Prelude.{ℕ, ℤ, pos, negsuc, List, map}
use Rattle.go_syntax.specs.declared.expression.Literal.{Literal}
use Rattle.go_syntax.specs.declared.expression.Literal.TheVariants as literal
use Rattle.go_syntax.specs.declared.name.Name.{Name}
use Rattle.go_syntax.specs.declared.token.Token.{Token}
use Rattle.go_syntax.specs.declared.token.TokenKind.{TokenKind}
use Rattle.go_syntax.specs.declared.token.TokenKind.TheVariants as kind
use Rattle.go_syntax.specs.declared.token.TokenValue.{TokenValue}
use Rattle.go_syntax.specs.declared.token.TokenValue.TheVariants as value

-- the byte offsets at which a token starts and ends
abbrev pub Extent : Type 0
Extent = ℕ × ℕ

pub data Terminal : Type 0 where
  -- a keyword, or an operator
  Sign : TokenKind → Extent → Terminal
  Identifier : Name → Terminal
  -- a literal, and the byte offset at which it starts
  Basic : Literal → ℕ → Terminal
  -- a token whose kind and value don't fit together, which no rule takes
  Odd : Terminal

-- a token that says nothing besides its kind
abbrev pub silent : TokenKind → Extent → Terminal
silent kind.Ident at = Odd
silent kind.IntLit at = Odd
silent kind.FloatLit at = Basic literal.Float at.0
silent kind.ImagLit at = Basic literal.Imaginary at.0
silent kind.RuneLit at = Odd
silent kind.StrLit at = Odd
silent k at = Sign k at

-- a token that says a name
abbrev pub naming : TokenKind → List ℕ → ℕ → Terminal
naming kind.Ident text place = Identifier (record { text = text; place = place })
naming _ text place = Odd

-- a token that says an integer literal, where its kind is that of one
abbrev pub whole : TokenKind → Literal → ℕ → Terminal
whole kind.IntLit l place = Basic l place
whole _ l place = Odd

abbrev pub number : TokenKind → ℤ → ℕ → Terminal
number k (pos n) place = whole k (literal.Int (pos n)) place
number k (negsuc n) place = Odd

abbrev pub rune : TokenKind → ℕ → ℕ → Terminal
rune kind.RuneLit r place = Basic (literal.Rune r) place
rune _ r place = Odd

abbrev pub string : TokenKind → List ℕ → ℕ → Terminal
string kind.StrLit text place = Basic (literal.Str text) place
string _ text place = Odd

abbrev pub terminal_of : TokenKind → TokenValue → Extent → Terminal
terminal_of k value.Nothing at = silent k at
terminal_of k (value.Ident text) at = naming k text at.0
terminal_of k (value.Number n) at = number k n at.0
terminal_of k value.Wide at = whole k literal.Wide at.0
terminal_of k (value.Rune r) at = rune k r at.0
terminal_of k (value.Str text) at = string k text at.0

-- the terminal symbol that a token is
abbrev pub terminal : Token → Terminal
terminal t = terminal_of t.kind t.value (t.start, t.end)

abbrev pub terminals : List Token → List Terminal
terminals tokens = map terminal tokens
