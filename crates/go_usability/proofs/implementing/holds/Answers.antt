use Rattle.go_rules.specs.Scopes.{env_of}
use Rattle.go_usability.proofs.Finds.{held}
use Rattle.go_usability.proofs.implementing.holds.Goals as goal

pub returns : goal.returns
returns c = held (env_of c.args.context.now.env.now) c.args.term.now c.args.method.now.sel c.args.method.now.signature c.in_ok-answer.answer c.is_called-called.result c.in_ok-answer.ensures c.is_called-called.ensures
