use Rattle.go_rules.specs.Scopes.{env_of}
use Rattle.go_usability.proofs.Whole.{told_so}
use Rattle.go_usability.proofs.told.told_for.Goals as goal

pub returns : goal.returns
returns c = told_so (env_of c.args.context.now.env.now) c.args.methods.now c.args.term.now c.start.result.now c.begins.result c.in_ok-told.told c.start.ensures c.if-not-begins.false c.begins.ensures c.in_ok-told.ensures
