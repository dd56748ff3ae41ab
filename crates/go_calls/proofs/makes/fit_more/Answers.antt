use Rattle.go_rules.specs.Scopes.{env_of}
use Rattle.go_calls.proofs.Making.{fit_many}
use Rattle.go_calls.proofs.makes.fit_more.Goals as goal

pub returns-then-not-is_empty : goal.returns-then-not-is_empty
returns-then-not-is_empty c = fit_many (env_of c.args.context.now.env.now) c.args.size.now _ c.args.operands.now _ c.in-Some.ensures.cases.0 c.if-not-is_empty.ensures
