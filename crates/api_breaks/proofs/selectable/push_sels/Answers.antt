use Rattle.std.proofs.Common.{take, ◌+◌}
use Rattle.go_selectors.proofs.Lists.{taken_next}
use Rattle.api_breaks.specs.inner.Selecting.{KeepsSel, IsSelLoss}
use Rattle.api_breaks.proofs.Telling.{told_none, told_more, told_all}
use Rattle.api_breaks.proofs.selectable.push_sels.Goals as goal

pub loop-sel-init : goal.loop-sel-init
loop-sel-init c = told_none (KeepsSel c.args.old.now c.args.new.now c.args.pair.now) (IsSelLoss c.args.old.now c.args.new.now c.args.pair.now) c.args.losses.now.items

pub loop-sel-preserved : goal.loop-sel-preserved
loop-sel-preserved c = told_more (KeepsSel c.args.old.now c.args.new.now c.args.pair.now) (IsSelLoss c.args.old.now c.args.new.now c.args.pair.now) (take c.loop-sel.sel-index c.deref-sel-items.result.now) (take (c.loop-sel.sel-index + 1) c.deref-sel-items.result.now) c.sel-item.result c.args.losses.now.items c.loop-sel.losses.items c.push_sel.new.losses.items (taken_next c.deref-sel-items.result.now c.loop-sel.sel-index c.sel-item.result c.loop-sel-test.true c.sel-item.is) c.loop-sel.invariant c.in_ok-push_sel.ensures

pub returns : goal.returns
returns c = told_all (KeepsSel c.args.old.now c.args.new.now c.args.pair.now) (IsSelLoss c.args.old.now c.args.new.now c.args.pair.now) c.args.sels.now.items c.deref-sel-items.result.now c.loop-sel.sel-index c.args.losses.now.items c.loop-sel.losses.items c.deref-sel-items.ensures.value c.loop-sel-test.false c.loop-sel.invariant
