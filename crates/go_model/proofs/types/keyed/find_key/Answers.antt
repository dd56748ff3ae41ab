use Rattle.std.proofs.Common.{sym}
use Rattle.go_base.proofs.Ordered.{narrowed_less, narrowed_greater, narrowed_equal, narrowed_none, below_high, above_low}
use Rattle.go_model.proofs.types.keyed.find_key.Goals as goal

pub loop-low-preserved-in-Less : goal.loop-low-preserved-in-Less
loop-low-preserved-in-Less g c = narrowed_less g.K.Keyed.key c.args.items.now c.args.key.now c.requires c.loop-low.low c.loop-low.high _ c.index-items-middle.result c.loop-low.invariant (below_high c.loop-low.low c.loop-low.high c.loop-low-test.true) c.index-items-middle.is (sym c.in-Less.ensures)

pub loop-low-preserved : goal.loop-low-preserved
loop-low-preserved g c = narrowed_greater g.K.Keyed.key c.args.items.now c.args.key.now c.requires c.loop-low.low c.loop-low.high _ c.index-items-middle.result c.loop-low.invariant (below_high c.loop-low.low c.loop-low.high c.loop-low-test.true) c.index-items-middle.is (above_low c.loop-low.low c.loop-low.high) (sym c.in-Greater.ensures)

pub returns-in-Equal : goal.returns-in-Equal
returns-in-Equal g c = narrowed_equal g.K.Keyed.key c.args.items.now c.args.key.now c.requires c.loop-low.low c.loop-low.high _ c.index-items-middle.result c.loop-low.invariant (below_high c.loop-low.low c.loop-low.high c.loop-low-test.true) c.index-items-middle.is (sym c.in-Equal.ensures)

pub returns : goal.returns
returns g c = narrowed_none g.K.Keyed.key c.args.items.now c.args.key.now c.loop-low.low c.loop-low.high c.loop-low-test.false c.loop-low.invariant
