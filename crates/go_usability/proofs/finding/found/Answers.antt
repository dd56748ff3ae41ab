use Rattle.std.proofs.Common.{arith, sym}
use Rattle.go_rules.specs.Scopes.{env_of}
use Rattle.go_usability.proofs.Assigning.{granted, refused}
use Rattle.go_usability.proofs.Finds.{answered, unanswered, nothing}
use Rattle.go_usability.proofs.finding.found.Goals as goal

pub returns-then-not-branch : goal.returns-then-not-branch
returns-then-not-branch c = unanswered (env_of c.args.context.now.env.now) c.args.sel.now c.args.term.now c.in_ok-answer.answer c.in-Some.depth c.in_ok-answer.ensures (sym c.in-Some.ensures) (omega arith) (refused c.in_ok-told_from-in-Some.field-0 c.if-not-branch.true c.in_ok-told_from-in-Some.ensures)

pub returns-else-not-branch : goal.returns-else-not-branch
returns-else-not-branch c = answered (env_of c.args.context.now.env.now) c.args.sel.now c.args.term.now c.in_ok-answer.answer c.in-Some.depth c.in_ok-answer.ensures (sym c.in-Some.ensures) (omega arith) (granted c.in_ok-told_from-in-Some.field-0 c.if-not-branch.false c.in_ok-told_from-in-Some.ensures)

pub returns-in-None : goal.returns-in-None
returns-in-None c = nothing (env_of c.args.context.now.env.now) c.args.sel.now c.args.term.now c.in_ok-answer.answer c.in_ok-answer.ensures (sym c.in-None.ensures)
