use Rattle.std.proofs.Common.{sym, ◌∙◌}
use Rattle.go_base.proofs.Ordered.{parted_sooner, parted_later, parted_place, below_high, above_low}
use Rattle.go_model.proofs.types.keyed.place_for.Goals as goal

pub loop-low-preserved-then-goes_before : goal.loop-low-preserved-then-goes_before
loop-low-preserved-then-goes_before g c = parted_sooner g.K.Keyed.key c.args.items.now c.args.key.now c.requires c.loop-low.low c.loop-low.high _ c.index-items-middle.result c.loop-low.invariant (below_high c.loop-low.low c.loop-low.high c.loop-low-test.true) c.index-items-middle.is (above_low c.loop-low.low c.loop-low.high) (sym c.goes_before.ensures ∙ c.if-goes_before.true)

pub loop-low-preserved : goal.loop-low-preserved
loop-low-preserved g c = parted_later g.K.Keyed.key c.args.items.now c.args.key.now c.requires c.loop-low.low c.loop-low.high _ c.index-items-middle.result c.loop-low.invariant (below_high c.loop-low.low c.loop-low.high c.loop-low-test.true) c.index-items-middle.is (sym c.goes_before.ensures ∙ c.if-goes_before.false)

pub returns : goal.returns
returns g c = parted_place g.K.Keyed.key c.args.items.now c.args.key.now c.loop-low.low c.loop-low.high c.loop-low-test.false c.loop-low.invariant
