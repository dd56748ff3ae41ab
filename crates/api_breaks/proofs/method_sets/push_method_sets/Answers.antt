use Rattle.std.proofs.Common.{sym, ◌∙◌}
use Rattle.api_breaks.proofs.MethodSetLosses.{sets_apart, sets_lost}
use Rattle.api_breaks.proofs.method_sets.push_method_sets.Goals as goal

pub returns-then-not-have_method_sets : goal.returns-then-not-have_method_sets
returns-then-not-have_method_sets c = sets_apart c.args.old.now c.args.new.now c.args.pair.now c.args.losses.now.items (sym c.have_method_sets.ensures ∙ c.if-not-have_method_sets.true)

pub returns : goal.returns
returns c = sets_lost c.args.old.now c.args.new.now c.args.pair.now c.args.losses.now.items c.push_set.new.losses.items c.push_pointers.new.losses.items (sym c.have_method_sets.ensures ∙ c.if-not-have_method_sets.false) c.in_ok-push_set.ensures c.in_ok-push_pointers.ensures
