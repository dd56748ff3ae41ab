use Rattle.go_model.specs.types.Terms.{pointer_to}
use Rattle.api_further_breaks.proofs.Implementers.{set_over}
use Rattle.api_further_breaks.proofs.implementing.push_pointers.Goals as goal

pub returns : goal.returns
returns c = set_over c.args.old.now c.args.new.now c.args.pairs.now c.args.sealed.now c.requires.sealed c.in_ok-before.before c.in_ok-after.after (pointer_to c.args.pair.now.old) (pointer_to c.args.pair.now.new) c.args.losses.now.items c.push_set.new.losses.items c.in_ok-before.ensures c.in_ok-after.ensures c.in_ok-push_set.ensures
