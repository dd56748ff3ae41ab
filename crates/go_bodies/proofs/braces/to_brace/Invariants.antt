use Rattle.std.proofs.Common.{◌≡◌, ◌-◌, ◌≤◌, length}
use Rattle.go_bodies.specs.Braces.{from_brace}
use Rattle.go_bodies.proofs.braces.to_brace.Given as goal
use Rattle.go_syntax.specs.grammar.Terminals.{terminals}

abbrev pub invariant-loop-turn : goal.invariant-loop-turn
invariant-loop-turn l = (from_brace l.start (terminals l.fn.tokens) ≡ from_brace l.start (terminals l.tokens)) × (length (terminals l.tokens) ≤ l._turn-end - l._turn)
