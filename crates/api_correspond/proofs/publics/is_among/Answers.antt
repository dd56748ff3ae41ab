use Rattle.std.proofs.Common.{sym, List, ℕ}
use Rattle.go_base.proofs.Ordered.{narrowed_less, narrowed_greater, narrowed_equal, narrowed_none, below_high, above_low}
use Rattle.api_correspond.proofs.Lookups.{texts_in_order, text_found, text_absent}
use Rattle.api_correspond.proofs.publics.is_among.Goals as goal

pub loop-low-preserved-in-Less : goal.loop-low-preserved-in-Less
loop-low-preserved-in-Less c = narrowed_less (λ (t : List ℕ). t) c.args.texts.now c.args.path.now (texts_in_order c.args.texts.now c.requires) c.loop-low.low c.loop-low.high _ c.index-texts-middle.result c.loop-low.invariant (below_high c.loop-low.low c.loop-low.high c.loop-low-test.true) c.index-texts-middle.is (sym c.in-Less.ensures)

pub loop-low-preserved : goal.loop-low-preserved
loop-low-preserved c = narrowed_greater (λ (t : List ℕ). t) c.args.texts.now c.args.path.now (texts_in_order c.args.texts.now c.requires) c.loop-low.low c.loop-low.high _ c.index-texts-middle.result c.loop-low.invariant (below_high c.loop-low.low c.loop-low.high c.loop-low-test.true) c.index-texts-middle.is (above_low c.loop-low.low c.loop-low.high) (sym c.in-Greater.ensures)

pub returns-in-Equal : goal.returns-in-Equal
returns-in-Equal c = text_found c.args.texts.now c.args.path.now c.index-texts-middle.result (narrowed_equal (λ (t : List ℕ). t) c.args.texts.now c.args.path.now (texts_in_order c.args.texts.now c.requires) c.loop-low.low c.loop-low.high _ c.index-texts-middle.result c.loop-low.invariant (below_high c.loop-low.low c.loop-low.high c.loop-low-test.true) c.index-texts-middle.is (sym c.in-Equal.ensures))

pub returns : goal.returns
returns c = text_absent c.args.texts.now c.args.path.now c.requires (narrowed_none (λ (t : List ℕ). t) c.args.texts.now c.args.path.now c.loop-low.low c.loop-low.high c.loop-low-test.false c.loop-low.invariant)
