use Rattle.go_rules.specs.Scopes.{env_of}
use Rattle.go_calls.proofs.Calling.{call_spread, call_each}
use Rattle.go_calls.proofs.functions.call_with.Goals as goal

pub returns-in_ok-spread-in-Some : goal.returns-in_ok-spread-in-Some
returns-in_ok-spread-in-Some c = call_spread (env_of c.args.context.now.env.now) c.args.dots c.args.signature.now c.args.operands.now _ c.in_ok-spread-in-Some.spread c.in-Some.ensures.0 c.in-Some.ensures.1 c.in_ok-spread-in-Some.ensures

pub returns-in_ok-answer-in-None : goal.returns-in_ok-answer-in-None
returns-in_ok-answer-in-None c = call_each (env_of c.args.context.now.env.now) c.args.dots c.args.signature.now c.args.operands.now c.in_ok-answer-in-None.answer c.in-None.ensures c.in_ok-answer-in-None.ensures
