use Rattle.go_rules.specs.Scopes.{env_of}
use Rattle.go_usability.proofs.Walked.{told_decides, not_begun}
use Rattle.go_usability.proofs.told.told_from.Goals as goal

pub returns-then-not-begins : goal.returns-then-not-begins
returns-then-not-begins c = not_begun (env_of c.args.context.now.env.now) c.args.sel.now c.args.depth c.args.term.now c.begins.result c.if-not-begins.true c.begins.ensures

pub returns : goal.returns
returns c = told_decides (env_of c.args.context.now.env.now) c.args.sel.now c.args.depth c.args.term.now c.start.result.now c.begins.result c.in_ok-told.told c.start.ensures c.if-not-begins.false c.begins.ensures c.in_ok-told.ensures
