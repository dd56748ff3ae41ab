use Rattle.std.proofs.Common.{◌≡◌, ◌-◌, ◌≤◌, length}
use Rattle.go_syntax.specs.grammar.Terminals.{terminals}
use Rattle.go_cursor.specs.LookAheads.{is_named}
use Rattle.go_cursor.proofs.looks.is_named.Given as goal

abbrev pub invariant-loop-turn : goal.invariant-loop-turn
invariant-loop-turn l = (is_named (terminals l.fn.tokens) ≡ is_named (terminals l.ahead)) × (length (terminals l.ahead) ≤ l._turn-end - l._turn)
