use Rattle.std.proofs.Common.{◌≡◌, ◌-◌, ◌≤◌, length}
use Rattle.go_bodies.specs.Braces.{rises}
use Rattle.go_bodies.proofs.braces.rise.Given as goal
use Rattle.go_syntax.specs.grammar.Terminals.{terminals}

abbrev pub invariant-loop-turn : goal.invariant-loop-turn
invariant-loop-turn l = (rises 0 (terminals l.fn.tokens) ≡ rises l.least (terminals l.ahead)) × (length (terminals l.ahead) ≤ l._turn-end - l._turn)
