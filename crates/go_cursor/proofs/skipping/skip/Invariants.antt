use Rattle.std.proofs.Common.{◌≡◌, ◌-◌, ◌∷◌, [], length, reverse}
use Rattle.go_syntax.specs.grammar.Terminals.{terminals}
use Rattle.go_cursor.specs.Skipping.{skip}
use Rattle.go_cursor.proofs.skipping.skip.Given as goal

abbrev pub invariant-loop-turn : goal.invariant-loop-turn
invariant-loop-turn l = (skip (terminals l.fn.tokens) (l.fn.closing ∷ []) ≡ skip (terminals l.tokens) (reverse l.wanted.items)) × (length (terminals l.tokens) ≡ l._turn-end - l._turn)
