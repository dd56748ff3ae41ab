use Rattle.std.proofs.Common.{sym}
use Rattle.go_base.proofs.Ordered.{below_high, above_low}
use Rattle.go_model.proofs.MethodSearch.{narrowed_less, narrowed_greater, narrowed_equal, narrowed_none}
use Rattle.go_model.proofs.types.declared_method.find_method.Goals as goal

pub loop-low-preserved-in-Less : goal.loop-low-preserved-in-Less
loop-low-preserved-in-Less c = narrowed_less c.args.methods.now c.args.sel.now c.requires c.loop-low.low c.loop-low.high _ c.index-methods-middle.result c.loop-low.invariant (below_high c.loop-low.low c.loop-low.high c.loop-low-test.true) c.index-methods-middle.is (sym c.in-Less.ensures)

pub loop-low-preserved : goal.loop-low-preserved
loop-low-preserved c = narrowed_greater c.args.methods.now c.args.sel.now c.requires c.loop-low.low c.loop-low.high _ c.index-methods-middle.result c.loop-low.invariant (below_high c.loop-low.low c.loop-low.high c.loop-low-test.true) c.index-methods-middle.is (above_low c.loop-low.low c.loop-low.high) (sym c.in-Greater.ensures)

pub returns-in-Equal : goal.returns-in-Equal
returns-in-Equal c = narrowed_equal c.args.methods.now c.args.sel.now c.requires c.loop-low.low c.loop-low.high _ c.index-methods-middle.result c.loop-low.invariant (below_high c.loop-low.low c.loop-low.high c.loop-low-test.true) c.index-methods-middle.is (sym c.in-Equal.ensures)

pub returns : goal.returns
returns c = narrowed_none c.args.methods.now c.args.sel.now c.loop-low.low c.loop-low.high c.loop-low-test.false c.loop-low.invariant
