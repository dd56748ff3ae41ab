use Rattle.std.proofs.Common.{drop}
use Rattle.go_nodes.proofs.EachItems.{EachFrom}
use Rattle.go_rules.specs.Asks.{Meets}
use Rattle.go_rules.specs.Nodes.{expression}
use Rattle.go_syntax.specs.declared.expression.Expr.{Expr}
use Rattle.go_type_terms.specs.Answers.{env_in}
use Rattle.go_assignments.proofs.sides.are_met.Given as goal

abbrev pub invariant-loop-expr : goal.invariant-loop-expr
invariant-loop-expr l = EachFrom (λ (e : Expr). Meets (env_in l.context) (expression e)) (drop l.expr-index l.exprs) l.exprs
