-- The `{`s among terminals: whether their byte offsets rise, so that each one is found by its own, and what stands from one of them on.
-- Own: a block is found by the byte offset of its `{`.
use Rattle.std.specs.Prelude.{ℕ, suc, Bool, true, false, nat_eq, nat_le, if◌then◌else◌, List, [], ◌∷◌, Option, Some, None}
use Rattle.go_cursor.specs.Skipping.{start_at}
use Rattle.go_syntax.specs.declared.token.TokenKind.TheVariants as kind
use Rattle.go_syntax.specs.grammar.Symbols.{begins}
use Rattle.go_syntax.specs.grammar.Terminals.{Terminal}

-- whether each `{` has an offset of at least this, and a greater one than each before it
unfoldable pub rises : ℕ → List Terminal → Bool
rises least [] = true
rises least (t ∷ ts) = if begins kind.LeftBrace (t ∷ ts) then (if nat_le least (start_at (t ∷ ts)) then rises (suc (start_at (t ∷ ts))) ts else false) else rises least ts

-- the least offset that a `{` behind the next token may have, where the next one may have its own
abbrev pub next_bound : ℕ → List Terminal → Option ℕ
next_bound least ts = if begins kind.LeftBrace ts then (if nat_le least (start_at ts) then Some (suc (start_at ts)) else None) else Some least

-- whether a `{` of this offset is next
abbrev pub opens : ℕ → List Terminal → Bool
opens start ts = if begins kind.LeftBrace ts then nat_eq (start_at ts) start else false

-- from the first `{` of this offset on
unfoldable pub from_brace : ℕ → List Terminal → List Terminal
from_brace start [] = []
from_brace start (t ∷ ts) = if opens start (t ∷ ts) then t ∷ ts else from_brace start ts
