use Rattle.std.proofs.Common.{drop}
use Rattle.go_literals.specs.go_type_terms.Answers.{env_in}
use Rattle.go_expr.proofs.Arguing.{Arguing}
use Rattle.go_expr.proofs.exprs.Exprs.each_after.Given as goal

abbrev pub invariant-loop-expr : goal.invariant-loop-expr
invariant-loop-expr g l = Arguing (env_in l.self.literals.operations.typing.context.now) l.fn.before l.exprs l.operands (drop l.expr-index l.exprs) l.loud
