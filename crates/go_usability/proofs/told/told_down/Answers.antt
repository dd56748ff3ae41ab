use Rattle.std.proofs.Common.{arith, true, false}
use Rattle.go_rules.specs.Scopes.{env_of}
use Rattle.go_usability.proofs.Walked.{first_walked, next_walked_at, all_walked, not_walked, visits_so}
use Rattle.go_usability.proofs.told.told_down.Goals as goal

pub loop-level-init : goal.loop-level-init
loop-level-init c = first_walked (env_of c.args.context.now.env.now) c.args.sel.now c.args.term.now _ c.push.new.self.all.items _ c.push.new.self.seen.keys c.new-list.ensures.all c.new-list.ensures.seen c.in_ok-push.ensures

pub returns-then-not-branch : goal.returns-then-not-branch
returns-then-not-branch c = not_walked (env_of c.args.context.now.env.now) c.args.sel.now c.args.term.now c.args.depth c.loop-level.level c.loop-level.from c.loop-level.list.all.items c.visit.new.list.all.items c.in_ok-layer.layer.items c.loop-level.list.seen.keys c.visit.new.list.seen.keys c.loop-level.invariant (omega arith) c.in_ok-layer.ensures (visits_so (env_of c.args.context.now.env.now) c.args.sel.now c.in_ok-layer.layer.items c.loop-level.list.all.items c.loop-level.list.seen.keys c.visit.new.list.all.items c.visit.new.list.seen.keys c.in_ok-visit.field-0 false c.if-not-branch.true c.in_ok-visit.ensures)

pub loop-level-preserved : goal.loop-level-preserved
loop-level-preserved c = next_walked_at (env_of c.args.context.now.env.now) c.args.sel.now c.args.term.now c.loop-level.level c.loop-level.from c.len-from.result c.loop-level.list.all.items c.visit.new.list.all.items c.in_ok-layer.layer.items c.loop-level.list.seen.keys c.visit.new.list.seen.keys c.len-from.ensures c.loop-level.invariant c.in_ok-layer.ensures (visits_so (env_of c.args.context.now.env.now) c.args.sel.now c.in_ok-layer.layer.items c.loop-level.list.all.items c.loop-level.list.seen.keys c.visit.new.list.all.items c.visit.new.list.seen.keys c.in_ok-visit.field-0 true c.if-not-branch.false c.in_ok-visit.ensures)

pub returns : goal.returns
returns c = all_walked (env_of c.args.context.now.env.now) c.args.sel.now c.args.term.now c.args.depth c.loop-level.level c.loop-level.from c.loop-level.list.all.items c.loop-level.list.seen.keys c.loop-level.invariant (omega arith)
