use Rattle.api_breaks.proofs.PairLosses.{pair_exact}
use Rattle.api_breaks.proofs.pairs.push_pair.Goals as goal

pub returns : goal.returns
returns c = pair_exact c.args.old.now c.args.new.now c.args.pair.now c.args.losses.now.items c.push_types.new.losses.items c.push_underlying.new.losses.items c.push_fields.new.losses.items c.push_selectable.new.losses.items c.push_comparable.new.losses.items c.push_interfaces.new.losses.items c.push_method_sets.new.losses.items c.in_ok-push_types.ensures c.in_ok-push_underlying.ensures c.in_ok-push_fields.ensures c.in_ok-push_selectable.ensures c.in_ok-push_comparable.ensures c.in_ok-push_interfaces.ensures c.in_ok-push_method_sets.ensures
