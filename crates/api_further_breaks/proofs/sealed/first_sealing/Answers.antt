use Rattle.std.proofs.Common.{take, ◌+◌}
use Rattle.go_selectors.proofs.Lists.{taken_next, item_has}
use Rattle.api_further_breaks.proofs.Indexing.{none_more, none_all, one_seals}
use Rattle.api_further_breaks.proofs.sealed.first_sealing.Goals as goal

pub loop-method-init : goal.loop-method-init
loop-method-init c = λ m h k. h

pub returns-then-is_sealing : goal.returns-then-is_sealing
returns-then-is_sealing c = (item_has c.args.methods.now c.loop-method.method-index c.method-item.result c.loop-method-test.true c.method-item.is, one_seals c.args.world.now c.method-item.result c.is_sealing.result c.is_sealing.ensures c.if-is_sealing.true)

pub loop-method-preserved : goal.loop-method-preserved
loop-method-preserved c = none_more c.args.world.now (take c.loop-method.method-index c.args.methods.now) (take (c.loop-method.method-index + 1) c.args.methods.now) c.method-item.result c.is_sealing.result (taken_next c.args.methods.now c.loop-method.method-index c.method-item.result c.loop-method-test.true c.method-item.is) c.is_sealing.ensures c.if-is_sealing.false c.loop-method.invariant

pub returns : goal.returns
returns c = none_all c.args.world.now c.args.methods.now c.loop-method.method-index c.loop-method-test.false c.loop-method.invariant
