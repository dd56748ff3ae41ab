use Rattle.std.proofs.Common.{◌≡◌, ◌-◌, []}
use Rattle.go_cursor.specs.Reading.{run, loop, step_of}
use Rattle.go_stmt_descent.specs.Statements.{stmt_item, statements}
use Rattle.go_stmt_lists.proofs.clauses.Clauses.stmts.Given as goal
use Rattle.go_syntax.specs.grammar.Terminals.{terminals}

abbrev pub invariant-loop-turn : goal.invariant-loop-turn
invariant-loop-turn g l = run (step_of (stmt_item (statements l.self.level.now.lower.readers.height).stmt)) [] (terminals l.fn.tokens) ≡ loop (step_of (stmt_item (statements l.self.level.now.lower.readers.height).stmt)) (l._turn-end - l._turn) l.stmts (terminals l.tokens)
