use Rattle.std.proofs.Common.{◌≡◌, ◌-◌, false}
use Rattle.go_syntax.specs.grammar.Terminals.{terminals}
use Rattle.go_cursor.specs.Reading.{loop, run}
use Rattle.go_cursor.specs.Skipping.{past_step}
use Rattle.go_cursor.proofs.skipping.past_type.Given as goal

abbrev pub invariant-loop-turn : goal.invariant-loop-turn
invariant-loop-turn l = run past_step false (terminals l.fn.tokens) ≡ loop past_step (l._turn-end - l._turn) l.last (terminals l.tokens)
