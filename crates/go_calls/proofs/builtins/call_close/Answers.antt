use Rattle.go_rules.specs.Scopes.{env_of}
use Rattle.go_calls.specs.Builtins.{Closes}
use Rattle.go_calls.proofs.Building.{one_gives, one_nothing}
use Rattle.go_calls.proofs.builtins.call_close.Goals as goal

pub returns-in-Some : goal.returns-in-Some
returns-in-Some c = one_gives (Closes (env_of c.args.context.now.env.now)) c.args.operands.now c.args.dots _ c.close.result c.in-Some.ensures.0 c.in-Some.ensures.1 c.close.ensures

pub returns-in-None : goal.returns-in-None
returns-in-None c = one_nothing (Closes (env_of c.args.context.now.env.now)) c.args.operands.now c.args.dots c.in-None.ensures
