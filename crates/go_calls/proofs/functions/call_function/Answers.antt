use Rattle.go_rules.specs.Scopes.{env_of}
use Rattle.go_calls.proofs.Calling.{call_no_type, call_no_function, call_gives}
use Rattle.go_calls.proofs.functions.call_function.Goals as goal

pub returns-in-None : goal.returns-in-None
returns-in-None c = call_no_type (env_of c.args.context.now.env.now) c.args.dots c.args.operand.now c.args.operands.now c.in-None.ensures

pub returns-in_ok-answer-in-Some-function_under : goal.returns-in_ok-answer-in-Some-function_under
returns-in_ok-answer-in-Some-function_under c = call_gives (env_of c.args.context.now.env.now) c.args.dots c.args.operand.now c.args.operands.now _ _ c.in_ok-answer-in-Some-function_under.answer c.in-Some.ensures c.in-Some-function_under.ensures c.in_ok-answer-in-Some-function_under.ensures

pub returns-in-None-function_under : goal.returns-in-None-function_under
returns-in-None-function_under c = call_no_function (env_of c.args.context.now.env.now) c.args.dots c.args.operand.now c.args.operands.now _ c.in-Some.ensures c.in-None-function_under.ensures
