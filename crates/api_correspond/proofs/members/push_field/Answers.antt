use Rattle.std.proofs.Common.{take, ◌+◌, get_or}
use Rattle.std.proofs.lemmas.List.{take_more}
use Rattle.api_correspond.proofs.Growing.{of_none, of_more}
use Rattle.api_correspond.specs.inner.Leading.{IsFieldAt}
use Rattle.api_correspond.proofs.members.push_field.Goals as goal

pub loop-at-init : goal.loop-at-init
loop-at-init c = of_none (IsFieldAt c.args.field.now c.args.after.now) c.args.pairs.now.items

pub loop-at-preserved : goal.loop-at-preserved
loop-at-preserved c = of_more (IsFieldAt c.args.field.now c.args.after.now) (take c.loop-at.at-index c.args.places.now) (take (c.loop-at.at-index + 1) c.args.places.now) (get_or c.args.places.now c.loop-at.at-index 0) c.args.pairs.now.items c.loop-at.pairs.items c.push_at.new.pairs.items (take_more c.args.places.now c.loop-at.at-index 0 c.loop-at-test.true) c.loop-at.invariant c.in_ok-push_at.ensures
