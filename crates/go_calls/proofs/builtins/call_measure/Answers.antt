use Rattle.go_rules.specs.Scopes.{env_of}
use Rattle.go_calls.specs.Builtins.{Measures}
use Rattle.go_calls.proofs.Building.{one_gives, one_nothing}
use Rattle.go_calls.proofs.builtins.call_measure.Goals as goal

pub returns-in-Some : goal.returns-in-Some
returns-in-Some c = one_gives (Measures (env_of c.args.context.now.env.now) c.args.function c.args.loud) c.args.operands.now c.args.dots _ c.measure.result c.in-Some.ensures.0 c.in-Some.ensures.1 c.measure.ensures

pub returns-in-None : goal.returns-in-None
returns-in-None c = one_nothing (Measures (env_of c.args.context.now.env.now) c.args.function c.args.loud) c.args.operands.now c.args.dots c.in-None.ensures
