use Rattle.go_literals.specs.go_type_terms.Answers.{env_in}
use Rattle.go_expr.proofs.Handing.{unqualified_handed}
use Rattle.go_expr.proofs.exprs.Exprs.unqualified.Goals as goal

pub returns-in_err-result : goal.returns-in_err-result
returns-in_err-result g c = unqualified_handed (env_in c.args.self.now.literals.operations.typing.context.now) c.args.operand.now c.in_ok-first.first c.args.posts.now c.in_ok-first.ensures.0 c.in_err-result.field-0.0 c.from_residual-in_err-result.result c.from_residual-in_err-result.ensures.1 c.in_err-result.ensures
