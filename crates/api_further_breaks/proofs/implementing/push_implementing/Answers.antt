use Rattle.api_further_breaks.proofs.Implementers.{none_sealed, both_exact}
use Rattle.api_further_breaks.proofs.implementing.push_implementing.Goals as goal

pub returns-then-is_none : goal.returns-then-is_none
returns-then-is_none c = none_sealed c.args.old.now c.args.new.now c.args.pairs.now c.args.sealed.now c.requires.sealed c.args.pair.now c.args.losses.now.items (c.is_none.ensures c.if-is_none.true)

pub returns : goal.returns
returns c = both_exact c.args.old.now c.args.new.now c.args.pairs.now c.args.sealed.now c.requires.sealed c.args.pair.now c.args.losses.now.items c.push_set.new.losses.items c.push_pointers.new.losses.items c.in_ok-push_set.ensures c.in_ok-push_pointers.ensures
