use Rattle.std.proofs.Common.{◌≡◌, ◌-◌}
use Rattle.go_syntax.specs.grammar.Terminals.{terminals}
use Rattle.go_descent.specs.Levels.{levels}
use Rattle.go_cursor.specs.Reading.{run, loop, step_of}
use Rattle.go_descent.specs.Rules.{expr_item, expr_of}
use Rattle.go_simple_stmts.proofs.simple.SimpleStmts.more_exprs.Given as goal

abbrev pub invariant-loop-turn : goal.invariant-loop-turn
invariant-loop-turn l = run (step_of (expr_item (expr_of l.composite (levels l.self.readers.height)))) l.fn.first (terminals l.fn.tokens) ≡ loop (step_of (expr_item (expr_of l.composite (levels l.self.readers.height)))) (l._turn-end - l._turn) l.exprs (terminals l.tokens)
