use Rattle.go_literals.specs.go_type_terms.Answers.{env_in}
use Rattle.go_expr.proofs.Handing.{qualified_handed}
use Rattle.go_expr.proofs.exprs.Exprs.qualified.Goals as goal

pub returns-in_err-first : goal.returns-in_err-first
returns-in_err-first g c = qualified_handed (env_in c.args.self.now.literals.operations.typing.context.now) c.args.package.now c.args.name.now c.args.posts.now c.in_err-first.field-0.0 c.from_residual.result c.from_residual.ensures.1 c.in_err-first.ensures
