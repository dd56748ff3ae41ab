use Rattle.go_rules.specs.Scopes.{env_of}
use Rattle.go_calls.proofs.Appending.{dots_none, dots_last, dots_no_last}
use Rattle.go_calls.proofs.append.may_append_all.Goals as goal

pub returns-then-not-dots : goal.returns-then-not-dots
returns-then-not-dots c = dots_none (env_of c.args.context.now.env.now) c.args.element.now c.args.operands.now c.args.dots c.in_ok-all.all c.if-not-dots.true c.in_ok-all.ensures

pub returns-in_ok-last-in-Some : goal.returns-in_ok-last-in-Some
returns-in_ok-last-in-Some c = dots_last (env_of c.args.context.now.env.now) c.args.element.now c.args.operands.now c.args.dots _ c.in_ok-last-in-Some.last c.if-not-dots.false c.in-Some.ensures c.in_ok-last-in-Some.ensures

pub returns-in-None : goal.returns-in-None
returns-in-None c = dots_no_last (env_of c.args.context.now.env.now) c.args.element.now c.args.operands.now c.args.dots c.if-not-dots.false c.in-None.ensures
