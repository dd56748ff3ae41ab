-- Balanced runs: terminals whose round, square and curly brackets close in order. The body of a function
-- that is skipped is one, in its braces.
-- Own: after the blocks of the Go specification.
use Rattle.std.specs.Prelude.{◌≡◌, ℕ, Bool, true, false, List, ◌∷◌, Option, Some, None}
use Rattle.go_syntax.specs.declared.body.BodyRange.{BodyRange}
use Rattle.go_syntax.specs.declared.token.TokenKind.{TokenKind}
use Rattle.go_syntax.specs.declared.token.TokenKind.TheVariants as kind
use Rattle.go_syntax.specs.grammar.Terminals.{Terminal, Sign, Odd, Identifier, Basic, Extent}

-- the bracket that closes what this one opens
abbrev pub closer : TokenKind → Option TokenKind
closer kind.LeftParen = Some kind.RightParen
closer kind.LeftBracket = Some kind.RightBracket
closer kind.LeftBrace = Some kind.RightBrace
closer _ = None

abbrev pub no_bracket : TokenKind → Bool
no_bracket kind.LeftParen = false
no_bracket kind.LeftBracket = false
no_bracket kind.LeftBrace = false
no_bracket kind.RightParen = false
no_bracket kind.RightBracket = false
no_bracket kind.RightBrace = false
no_bracket _ = true

-- whether a terminal is no bracket, and its token not an odd one
abbrev pub is_plain : Terminal → Bool
is_plain (Sign k at) = no_bracket k
is_plain (Identifier n) = true
is_plain (Basic l place) = true
is_plain Odd = false

-- a balanced run, and what follows it
pub data IsRun : List Terminal → List Terminal → Type 0 where
  run_none : {ts : List Terminal} → IsRun ts ts
  run_plain : {t : Terminal} {ts rest : List Terminal} → is_plain t ≡ true → IsRun ts rest → IsRun (t ∷ ts) rest
  run_nest : {j k : TokenKind} {ts u rest : List Terminal} (at end : Extent) → closer j ≡ Some k → IsRun ts (Sign k end ∷ u) → IsRun u rest
      → IsRun (Sign j at ∷ ts) rest

abbrev pub body_range : ℕ → ℕ → BodyRange
body_range start end = record { start = start; end = end }

-- a body that is skipped: it reaches from the start of its `{` to the end of its `}`
pub data IsSkipped : List Terminal → BodyRange → List Terminal → Type 0 where
  skipped : {ts rest : List Terminal} (start start_end end_start end : ℕ) → IsRun ts (Sign kind.RightBrace (end_start, end) ∷ rest)
      → IsSkipped (Sign kind.LeftBrace (start, start_end) ∷ ts) (body_range start end) rest
