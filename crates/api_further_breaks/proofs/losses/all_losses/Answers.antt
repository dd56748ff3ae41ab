use Rattle.std.proofs.Common.{take, ◌+◌, subst, sym, [], List}
use Rattle.go_selectors.proofs.Lists.{taken_next, item_has}
use Rattle.api_breaks.specs.declared.broken.Lost.{Lost}
use Rattle.api_further_breaks.specs.inner.Losses.{AreLosses}
use Rattle.api_further_breaks.proofs.AllBreaks.{losses_more, losses_all}
use Rattle.api_further_breaks.proofs.losses.all_losses.Goals as goal

pub loop-pair-init : goal.loop-pair-init
loop-pair-init c = subst (λ (w : List (List Lost)). AreLosses c.args.old.now c.args.new.now [] w) (sym c.new-all.ensures.items) tt

pub loop-pair-preserved : goal.loop-pair-preserved
loop-pair-preserved c = losses_more c.args.old.now c.args.new.now (take c.loop-pair.pair-index c.args.pairs.now) (take (c.loop-pair.pair-index + 1) c.args.pairs.now) c.pair-item.result c.loop-pair.all.items c.push.new.self.items c.in_ok-losses.losses (taken_next c.args.pairs.now c.loop-pair.pair-index c.pair-item.result c.loop-pair-test.true c.pair-item.is) c.in_ok-push.ensures.items c.loop-pair.invariant c.in_ok-losses.ensures

pub returns : goal.returns
returns c = losses_all c.args.old.now c.args.new.now c.args.pairs.now c.loop-pair.pair-index c.loop-pair.all.items c.loop-pair-test.false c.loop-pair.invariant

pub losses_of-requires-clause-there : goal.losses_of-requires-clause-there
losses_of-requires-clause-there c = item_has c.args.pairs.now c.loop-pair.pair-index c.pair-item.result c.loop-pair-test.true c.pair-item.is
