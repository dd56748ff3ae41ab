use Rattle.go_rules.specs.Scopes.{env_of}
use Rattle.go_operators.proofs.Comparing.{left_decides, kinds_decide}
use Rattle.go_operators.proofs.comparisons.equates_untyped.Goals as goal

pub returns-in_ok-answer-in-Some : goal.returns-in_ok-answer-in-Some
returns-in_ok-answer-in-Some c = left_decides (env_of c.args.context.now.env.now) c.args.left.now c.args.right.now _ c.in_ok-answer-in-Some.answer c.requires c.in-Some.ensures c.in_ok-answer-in-Some.ensures

pub returns-in_ok-answer-in-None : goal.returns-in_ok-answer-in-None
returns-in_ok-answer-in-None c = kinds_decide (env_of c.args.context.now.env.now) c.args.left.now c.args.right.now c.in_ok-answer-in-None.answer c.requires c.in-None.ensures c.in_ok-answer-in-None.ensures
