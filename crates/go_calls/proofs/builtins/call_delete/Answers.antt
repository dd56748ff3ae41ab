use Rattle.go_rules.specs.Scopes.{env_of}
use Rattle.go_calls.specs.Builtins.{Deletes}
use Rattle.go_calls.proofs.Building.{two_gives, two_nothing}
use Rattle.go_calls.proofs.builtins.call_delete.Goals as goal

pub returns-in_ok-answer-in-Some : goal.returns-in_ok-answer-in-Some
returns-in_ok-answer-in-Some c = two_gives (Deletes (env_of c.args.context.now.env.now)) c.args.operands.now c.args.dots _ _ c.in_ok-answer-in-Some.answer c.in-Some.ensures.0 c.in-Some.ensures.1 c.in_ok-answer-in-Some.ensures

pub returns-in-None : goal.returns-in-None
returns-in-None c = two_nothing (Deletes (env_of c.args.context.now.env.now)) c.args.operands.now c.args.dots c.in-None.ensures
