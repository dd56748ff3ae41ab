use Rattle.go_rules.specs.Scopes.{env_of}
use Rattle.go_calls.proofs.Appending.{append_rest, append_nothing}
use Rattle.go_calls.proofs.append.append.Goals as goal

pub returns-in_ok-answer-in-Some : goal.returns-in_ok-answer-in-Some
returns-in_ok-answer-in-Some c = append_rest (env_of c.args.context.now.env.now) c.args.operands.now _ _ c.args.dots c.in_ok-answer-in-Some.answer c.in-Some.ensures.cases.0 c.in_ok-answer-in-Some.ensures

pub returns-in-None : goal.returns-in-None
returns-in-None c = append_nothing (env_of c.args.context.now.env.now) c.args.operands.now c.args.dots c.in-None.ensures.cases
