use Rattle.go_rules.specs.Scopes.{env_of}
use Rattle.go_calls.proofs.Callees.{convert_gives, convert_nothing}
use Rattle.go_calls.proofs.calls.convert_one.Goals as goal

pub returns-in_ok-answer-in-Some : goal.returns-in_ok-answer-in-Some
returns-in_ok-answer-in-Some c = convert_gives (env_of c.args.context.now.env.now) c.args.term.now c.args.operands.now c.args.dots _ c.in_ok-answer-in-Some.answer c.in-Some.ensures.0 c.in-Some.ensures.1 c.in_ok-answer-in-Some.ensures

pub returns-in-None : goal.returns-in-None
returns-in-None c = convert_nothing (env_of c.args.context.now.env.now) c.args.term.now c.args.operands.now c.args.dots c.in-None.ensures
