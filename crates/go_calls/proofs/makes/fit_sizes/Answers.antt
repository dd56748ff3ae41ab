use Rattle.go_rules.specs.Scopes.{env_of}
use Rattle.go_calls.proofs.Making.{fit_empty}
use Rattle.go_calls.proofs.makes.fit_sizes.Goals as goal

pub returns-in-None : goal.returns-in-None
returns-in-None c = fit_empty (env_of c.args.context.now.env.now) c.args.operands.now c.in-None.ensures.cases
