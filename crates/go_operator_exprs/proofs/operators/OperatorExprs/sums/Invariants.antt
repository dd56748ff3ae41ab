use Rattle.std.proofs.Common.{◌≡◌, ◌-◌, []}
use Rattle.go_syntax.specs.grammar.Grammar.{sum_operator}
use Rattle.go_syntax.specs.grammar.Terminals.{terminals}
use Rattle.go_descent.specs.Levels.{levels}
use Rattle.go_cursor.specs.Reading.{run, loop}
use Rattle.go_descent.specs.Rules.{step_both, operation, product_expr}
use Rattle.go_operator_exprs.proofs.operators.OperatorExprs.sums.Given as goal

abbrev pub invariant-loop-turn : goal.invariant-loop-turn
invariant-loop-turn g l = run (step_both (operation sum_operator (product_expr l.composite (levels l.self.grammar.now.height)))) ([], []) (terminals l.fn.tokens) ≡ loop (step_both (operation sum_operator (product_expr l.composite (levels l.self.grammar.now.height)))) (l._turn-end - l._turn) (l.operators, l.operands) (terminals l.tokens)
