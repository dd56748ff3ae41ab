use Rattle.api_breaks.proofs.MethodSetLosses.{set_empty, set_lost}
use Rattle.api_breaks.proofs.method_sets.push_set.Goals as goal

pub returns-then-is_none : goal.returns-then-is_none
returns-then-is_none c = set_empty c.args.old.now c.args.new.now c.args.before.now c.args.after.now c.in_ok-set.set c.items-methods.result.now c.args.losses.now.items c.in_ok-set.ensures c.items-methods.ensures (c.is_none.ensures c.if-is_none.true)

pub returns : goal.returns
returns c = set_lost c.args.old.now c.args.new.now c.args.before.now c.args.after.now c.in_ok-set.set c.items-methods.result.now c.in_ok-push_uncalled.ensures.0 c.args.losses.now.items c.push_uncalled.new.losses.items c.in_ok-set.ensures c.in_ok-push_uncalled.ensures.1 c.items-methods.ensures c.in_ok-push_uncalled.ensures.2
