use Rattle.go_rules.specs.Scopes.{env_of}
use Rattle.go_usability.proofs.Using.{use_decides}
use Rattle.go_usability.specs.inner.Stands.{stood}
use Rattle.go_usability.proofs.usable.usable.Goals as goal

pub returns : goal.returns
returns c = use_decides (env_of c.args.context.now.env.now) c.args.operand.now c.args.term.now (stood c.stands.result) c.in_ok-answer.answer c.stands.ensures c.in_ok-answer.ensures
