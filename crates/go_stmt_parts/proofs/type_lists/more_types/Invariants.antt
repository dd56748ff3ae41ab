use Rattle.std.proofs.Common.{◌≡◌, ◌-◌}
use Rattle.go_cursor.specs.Reading.{run, loop, step_of}
use Rattle.go_stmt_descent.specs.Statements.{type_item}
use Rattle.go_stmt_parts.proofs.type_lists.more_types.Given as goal
use Rattle.go_syntax.specs.grammar.Terminals.{terminals}

abbrev pub invariant-loop-turn : goal.invariant-loop-turn
invariant-loop-turn l = run (step_of (type_item l.readers.height)) l.fn.first (terminals l.fn.tokens) ≡ loop (step_of (type_item l.readers.height)) (l._turn-end - l._turn) l.types (terminals l.tokens)
