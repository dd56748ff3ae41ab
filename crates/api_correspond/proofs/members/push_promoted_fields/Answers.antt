use Rattle.std.proofs.Common.{take, ◌+◌}
use Rattle.go_selectors.proofs.Lists.{taken_next}
use Rattle.api_correspond.specs.Publics.{types_of}
use Rattle.api_correspond.specs.inner.Leading.{IsPromotedBy}
use Rattle.api_correspond.proofs.Growing.{of_none, of_more}
use Rattle.api_correspond.proofs.Leading.{promoted_by, promoted_all}
use Rattle.api_correspond.proofs.members.push_promoted_fields.Goals as goal

pub loop-sel-init : goal.loop-sel-init
loop-sel-init c = of_none (IsPromotedBy (types_of c.args.old.now) (types_of c.args.new.now) c.args.pair.now) c.args.pairs.now.items

pub loop-sel-preserved : goal.loop-sel-preserved
loop-sel-preserved c = of_more (IsPromotedBy (types_of c.args.old.now) (types_of c.args.new.now) c.args.pair.now) (take c.loop-sel.sel-index c.deref-sel-items.result.now) (take (c.loop-sel.sel-index + 1) c.deref-sel-items.result.now) c.sel-item.result c.args.pairs.now.items c.loop-sel.pairs.items c.push_promoted.new.pairs.items (taken_next c.deref-sel-items.result.now c.loop-sel.sel-index c.sel-item.result c.loop-sel-test.true c.sel-item.is) c.loop-sel.invariant c.in_ok-push_promoted.ensures

pub returns : goal.returns
returns c = promoted_by (types_of c.args.old.now) (types_of c.args.new.now) c.args.pair.now c.in_ok-sels.sels.items c.args.pairs.now.items c.loop-sel.pairs.items c.in_ok-sels.ensures (promoted_all (types_of c.args.old.now) (types_of c.args.new.now) c.args.pair.now c.in_ok-sels.sels.items c.deref-sel-items.result.now c.loop-sel.sel-index c.args.pairs.now.items c.loop-sel.pairs.items c.deref-sel-items.ensures.value c.loop-sel-test.false c.loop-sel.invariant)
