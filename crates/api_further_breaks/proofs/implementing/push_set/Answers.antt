use Rattle.api_further_breaks.proofs.Implementers.{set_nowhere, set_exact}
use Rattle.api_further_breaks.proofs.implementing.push_set.Goals as goal

pub returns-then-not-is_somewhere : goal.returns-then-not-is_somewhere
returns-then-not-is_somewhere c = set_nowhere c.args.old.now c.args.new.now c.args.pairs.now c.args.sealed.now c.requires.sealed c.args.before.now c.args.after.now c.in_ok-set.set c.items-methods.result.now c.args.losses.now.items c.in_ok-set.ensures c.items-methods.ensures (c.is_somewhere.ensures c.if-not-is_somewhere.true)

pub returns : goal.returns
returns c = set_exact c.args.old.now c.args.new.now c.args.pairs.now c.args.sealed.now c.requires.sealed c.args.before.now c.args.after.now c.in_ok-set.set c.items-methods.result.now c.in_ok-push_called.ensures.0 c.in_ok-push_called.ensures.1 c.args.losses.now.items c.push_called.new.losses.items c.in_ok-set.ensures c.items-methods.ensures c.in_ok-push_called.ensures.2 c.in_ok-push_called.ensures.3 c.in_ok-push_called.ensures.4
