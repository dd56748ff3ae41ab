use Rattle.go_rules.specs.Scopes.{env_of}
use Rattle.go_calls.proofs.Callees.{call_type, call_predeclared, call_value}
use Rattle.go_calls.proofs.calls.call.Goals as goal

pub returns-in-Some : goal.returns-in-Some
returns-in-Some c = call_type (env_of c.args.context.now.env.now) c.args.loud c.args.dots c.args.operand.now c.args.operands.now _ c.in_ok-converted.converted c.in-Some.ensures c.in_ok-converted.ensures

pub returns-in_ok-result-in-Some-builtin_in : goal.returns-in_ok-result-in-Some-builtin_in
returns-in_ok-result-in-Some-builtin_in c = call_predeclared (env_of c.args.context.now.env.now) c.args.loud c.args.dots c.args.operand.now c.args.operands.now _ c.in_ok-result-in-Some-builtin_in.result c.in-Some-builtin_in.ensures c.in_ok-result-in-Some-builtin_in.ensures

pub returns-in_ok-answer-in-None : goal.returns-in_ok-answer-in-None
returns-in_ok-answer-in-None c = call_value (env_of c.args.context.now.env.now) c.args.loud c.args.dots c.args.operand.now c.args.operands.now c.in_ok-answer-in-None.answer c.in_default.ensures c.in-None.ensures c.in_ok-answer-in-None.ensures
