use Rattle.go_rules.specs.Scopes.{env_of}
use Rattle.go_operators.proofs.Comparing.{right_decides}
use Rattle.go_operators.proofs.comparisons.equates_typed.Goals as goal

pub returns-in_ok-answer-in-None : goal.returns-in_ok-answer-in-None
returns-in_ok-answer-in-None c = right_decides (env_of c.args.context.now.env.now) c.args.left.now c.args.right.now _ c.in_ok-answer-in-None.answer c.requires c.in-None.ensures c.in_ok-answer-in-None.ensures
