use Rattle.go_rules.specs.Expressions.{has_operand}
use Rattle.go_literals.specs.go_type_terms.Answers.{env_in}
use Rattle.go_expr.proofs.ByForm.{whole_out}
use Rattle.go_expr.proofs.exprs.Exprs.expr.Goals as goal

pub returns-then-not-is_within : goal.returns-then-not-is_within
returns-then-not-is_within g c = whole_out (env_in c.args.self.now.literals.operations.typing.context.now) c.args.expr.now c.in_ok-operand.operand c.in_ok-operand.ensures.0 c.if-not-is_within.ensures

pub returns : goal.returns
returns g c = (has_operand c.in_ok-operand.ensures.0 c.if-not-is_within.ensures, c.in_ok-operand.ensures.1)
