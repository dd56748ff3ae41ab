use Rattle.go_rules.specs.Scopes.{env_of}
use Rattle.go_calls.specs.Builtins.{Panics}
use Rattle.go_calls.proofs.Building.{one_gives, one_nothing}
use Rattle.go_calls.proofs.builtins.call_panic.Goals as goal

pub returns-in_ok-answer-in-Some : goal.returns-in_ok-answer-in-Some
returns-in_ok-answer-in-Some c = one_gives (Panics (env_of c.args.context.now.env.now)) c.args.operands.now c.args.dots _ c.in_ok-answer-in-Some.answer c.in-Some.ensures.0 c.in-Some.ensures.1 c.in_ok-answer-in-Some.ensures

pub returns-in-None : goal.returns-in-None
returns-in-None c = one_nothing (Panics (env_of c.args.context.now.env.now)) c.args.operands.now c.args.dots c.in-None.ensures
