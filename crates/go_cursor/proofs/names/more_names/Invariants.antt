use Rattle.std.proofs.Common.{◌≡◌, ◌-◌}
use Rattle.go_syntax.specs.grammar.Terminals.{terminals}
use Rattle.go_cursor.specs.Names.{name_item}
use Rattle.go_cursor.specs.Reading.{loop, run, step_of}
use Rattle.go_cursor.proofs.names.more_names.Given as goal

abbrev pub invariant-loop-turn : goal.invariant-loop-turn
invariant-loop-turn l = run (step_of name_item) l.fn.first (terminals l.fn.tokens) ≡ loop (step_of name_item) (l._turn-end - l._turn) l.names (terminals l.tokens)
