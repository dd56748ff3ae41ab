use Rattle.go_rules.specs.Scopes.{env_of}
use Rattle.go_usability.proofs.Whole.{first_tells, next_tells, all_told}
use Rattle.go_usability.proofs.told.told_whole.Goals as goal

pub loop-at-init : goal.loop-at-init
loop-at-init c = first_tells (env_of c.args.context.now.env.now) c.args.methods.now c.args.term.now _ c.push.new.self.all.items _ c.push.new.self.seen.keys c.new-list.ensures.all c.new-list.ensures.seen c.in_ok-push.ensures

pub returns-in-None : goal.returns-in-None
returns-in-None c = λ e. all_told (env_of c.args.context.now.env.now) c.args.methods.now c.args.term.now c.loop-at.at c.loop-at.list.all.items c.loop-at.list.seen.keys c.loop-at.invariant c.in-None.ensures

pub loop-at-preserved : goal.loop-at-preserved
loop-at-preserved c = next_tells (env_of c.args.context.now.env.now) c.args.methods.now c.args.term.now c.loop-at.at c.loop-at.list.all.items c.push_further.new.list.all.items c.loop-at.list.seen.keys c.push_further.new.list.seen.keys c.in-Some.part.now c.is_told_each.result c.loop-at.invariant c.in-Some.ensures.0 c.in-Some.ensures.1 c.if-not-is_told_each.false c.is_told_each.ensures c.in_ok-push_further-in-Some.ensures
