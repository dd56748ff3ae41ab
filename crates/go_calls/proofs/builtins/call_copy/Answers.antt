use Rattle.go_rules.specs.Scopes.{env_of}
use Rattle.go_calls.specs.Builtins.{Copies}
use Rattle.go_calls.proofs.Building.{two_gives, two_nothing}
use Rattle.go_calls.proofs.builtins.call_copy.Goals as goal

pub returns-in-Some : goal.returns-in-Some
returns-in-Some c = two_gives (Copies (env_of c.args.context.now.env.now)) c.args.operands.now c.args.dots _ _ c.copy.result c.in-Some.ensures.0 c.in-Some.ensures.1 c.copy.ensures

pub returns-in-None : goal.returns-in-None
returns-in-None c = two_nothing (Copies (env_of c.args.context.now.env.now)) c.args.operands.now c.args.dots c.in-None.ensures
