use Rattle.std.proofs.Common.{take, ◌+◌}
use Rattle.go_selectors.proofs.Lists.{taken_next}
use Rattle.api_correspond.proofs.Growing.{of_none, of_more}
use Rattle.api_further_breaks.specs.inner.Losses.{IsOfLost}
use Rattle.api_further_breaks.proofs.AllBreaks.{losses_whole}
use Rattle.api_further_breaks.proofs.breaks.push_losses.Goals as goal

pub loop-lost-init : goal.loop-lost-init
loop-lost-init c = of_none (IsOfLost c.args.owner.now) c.args.breaks.now.items

pub loop-lost-preserved : goal.loop-lost-preserved
loop-lost-preserved c = of_more (IsOfLost c.args.owner.now) (take c.loop-lost.lost-index c.args.losses.now) (take (c.loop-lost.lost-index + 1) c.args.losses.now) c.lost-item.result c.args.breaks.now.items c.loop-lost.breaks.items c.push_loss.new.breaks.items (taken_next c.args.losses.now c.loop-lost.lost-index c.lost-item.result c.loop-lost-test.true c.lost-item.is) c.loop-lost.invariant c.in_ok-push_loss.ensures

pub returns : goal.returns
returns c = losses_whole c.args.owner.now c.args.losses.now c.loop-lost.lost-index c.args.breaks.now.items c.loop-lost.breaks.items c.loop-lost-test.false c.loop-lost.invariant
