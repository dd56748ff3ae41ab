use Rattle.go_rules.specs.Scopes.{env_of}
use Rattle.go_usability.proofs.Converting.{beneath_decides}
use Rattle.go_usability.proofs.conversions.converts_beneath.Goals as goal

pub returns : goal.returns
returns c = beneath_decides (env_of c.args.context.now.env.now) c.args.from.now c.args.to.now c.in_ok-left.left c.in_ok-right.right c.in_ok-answer.answer c.in_ok-left.ensures c.in_ok-right.ensures c.in_ok-answer.ensures
