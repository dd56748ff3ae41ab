use Rattle.go_literals.specs.go_type_terms.Answers.{env_in}
use Rattle.go_expr.proofs.Running.{step_out}
use Rattle.go_expr.proofs.exprs.Exprs.step.Goals as goal

pub returns-then-not-is_within : goal.returns-then-not-is_within
returns-then-not-is_within g c = step_out (env_in c.args.self.now.literals.operations.typing.context.now) c.args.operand.now c.in_ok-next.next c.args.post.now c.in_ok-next.ensures.0 c.if-not-is_within.ensures
