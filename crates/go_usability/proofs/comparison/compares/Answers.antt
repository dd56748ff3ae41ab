use Rattle.go_rules.specs.Scopes.{env_of}
use Rattle.go_usability.proofs.Entering.{compared, incomparable}
use Rattle.go_usability.proofs.comparison.compares.Goals as goal

pub returns-then-not-branch : goal.returns-then-not-branch
returns-then-not-branch c = incomparable (env_of c.args.context.now.env.now) c.args.term.now c.in_ok-comparable.field-0 c.if-not-branch.true c.in_ok-comparable.ensures

pub returns : goal.returns
returns c = compared (env_of c.args.context.now.env.now) c.args.term.now c.in_ok-comparable.field-0 c.in_ok-entered.entered c.if-not-branch.false c.in_ok-comparable.ensures c.in_ok-entered.ensures
