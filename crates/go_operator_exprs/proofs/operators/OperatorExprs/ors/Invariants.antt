use Rattle.std.proofs.Common.{◌≡◌, ◌-◌, []}
use Rattle.go_syntax.specs.declared.token.TokenKind.TheVariants as kind
use Rattle.go_syntax.specs.grammar.Terminals.{terminals}
use Rattle.go_descent.specs.Levels.{levels}
use Rattle.go_cursor.specs.Reading.{run, loop, step_of}
use Rattle.go_descent.specs.Rules.{after_sign, and_expr}
use Rattle.go_operator_exprs.proofs.operators.OperatorExprs.ors.Given as goal

abbrev pub invariant-loop-turn : goal.invariant-loop-turn
invariant-loop-turn g l = run (step_of (after_sign kind.LogicalOr (and_expr l.composite (levels l.self.grammar.now.height)))) [] (terminals l.fn.tokens) ≡ loop (step_of (after_sign kind.LogicalOr (and_expr l.composite (levels l.self.grammar.now.height)))) (l._turn-end - l._turn) l.operands (terminals l.tokens)
