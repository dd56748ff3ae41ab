use Rattle.go_literals.specs.go_type_terms.Answers.{env_in}
use Rattle.go_expr.proofs.Handing.{elements_part}
use Rattle.go_expr.proofs.exprs.Exprs.part.Goals as goal

pub returns-in_ok-loud-in-Elements : goal.returns-in_ok-loud-in-Elements
returns-in_ok-loud-in-Elements g c = elements_part (env_in c.args.self.now.literals.operations.typing.context.now) c.args.part c.in-Elements.term c.in-Elements.elements c.in_ok-loud-in-Elements.loud c.in-Elements.is c.in_ok-loud-in-Elements.ensures.0 c.in_ok-loud-in-Elements.ensures.1
