use Rattle.go_rules.specs.Scopes.{env_of}
use Rattle.go_calls.specs.Builtins.{MakesOf}
use Rattle.go_calls.proofs.Building.{more_gives, more_nothing, more_empty}
use Rattle.go_calls.proofs.builtins.call_make.Goals as goal

pub returns-then-dots : goal.returns-then-dots
returns-then-dots c = more_nothing (MakesOf (env_of c.args.context.now.env.now)) c.args.operands.now c.args.dots c.if-dots.true

pub returns-in_ok-answer-in-Some : goal.returns-in_ok-answer-in-Some
returns-in_ok-answer-in-Some c = more_gives (MakesOf (env_of c.args.context.now.env.now)) c.args.operands.now c.args.dots _ _ c.in_ok-answer-in-Some.answer c.in-Some.ensures.cases.0 c.if-dots.false c.in_ok-answer-in-Some.ensures

pub returns-in-None : goal.returns-in-None
returns-in-None c = more_empty (MakesOf (env_of c.args.context.now.env.now)) c.args.operands.now c.args.dots c.in-None.ensures.cases
