use Rattle.go_rules.specs.Scopes.{env_of}
use Rattle.go_usability.proofs.Entering.{first_enters, next_enters, all_entered, not_entered, entered_so}
use Rattle.go_usability.proofs.comparison.entered_below.Goals as goal

pub loop-at-init : goal.loop-at-init
loop-at-init c = first_enters (env_of c.args.context.now.env.now) c.args.term.now _ c.push.new.self.all.items _ c.push.new.self.seen.keys c.new-list.ensures.all c.new-list.ensures.seen c.in_ok-push.ensures

pub returns-then-not-is_entered : goal.returns-then-not-is_entered
returns-then-not-is_entered c = not_entered (env_of c.args.context.now.env.now) c.args.term.now c.loop-at.at c.loop-at.list.all.items c.loop-at.list.seen.keys c.in-Some.part.now c.is_entered.result c.loop-at.invariant c.in-Some.ensures.0 c.in-Some.ensures.1 c.if-not-is_entered.true c.is_entered.ensures

pub returns-in-None : goal.returns-in-None
returns-in-None c = all_entered (env_of c.args.context.now.env.now) c.args.term.now c.loop-at.at c.loop-at.list.all.items c.loop-at.list.seen.keys c.loop-at.invariant c.in-None.ensures

pub loop-at-preserved : goal.loop-at-preserved
loop-at-preserved c = next_enters (env_of c.args.context.now.env.now) c.args.term.now c.loop-at.at c.loop-at.list.all.items c.push_parts.new.list.all.items c.loop-at.list.seen.keys c.push_parts.new.list.seen.keys c.in-Some.part.now c.loop-at.invariant c.in-Some.ensures.0 c.in-Some.ensures.1 (entered_so (env_of c.args.context.now.env.now) c.in-Some.part.now c.is_entered.result c.if-not-is_entered.false c.is_entered.ensures) c.in_ok-push_parts-in-Some.ensures
