use Rattle.std.proofs.Common.{take, ◌+◌}
use Rattle.go_selectors.proofs.Lists.{taken_next}
use Rattle.api_further_breaks.proofs.Implementers.{nowhere_more}
use Rattle.api_further_breaks.proofs.implementing.is_somewhere.Goals as goal

pub loop-method-init : goal.loop-method-init
loop-method-init c = λ m h. absurd h

pub loop-method-preserved : goal.loop-method-preserved
loop-method-preserved c = nowhere_more c.args.places.now (take c.loop-method.method-index c.args.methods.now) (take (c.loop-method.method-index + 1) c.args.methods.now) c.method-item.result (taken_next c.args.methods.now c.loop-method.method-index c.method-item.result c.loop-method-test.true c.method-item.is) (c.is_nowhere.ensures c.if-not-is_nowhere.false) c.loop-method.invariant
