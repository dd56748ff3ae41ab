use Rattle.std.proofs.Common.{take, ◌+◌}
use Rattle.go_selectors.proofs.Lists.{taken_next}
use Rattle.api_correspond.proofs.Growing.{of_none, of_more}
use Rattle.api_correspond.specs.inner.Leading.{IsCalledIn}
use Rattle.api_correspond.proofs.members.push_methods.Goals as goal

pub loop-method-init : goal.loop-method-init
loop-method-init c = of_none (IsCalledIn c.args.callable.now) c.args.pairs.now.items

pub loop-method-preserved : goal.loop-method-preserved
loop-method-preserved c = of_more (IsCalledIn c.args.callable.now) (take c.loop-method.method-index c.args.methods.now) (take (c.loop-method.method-index + 1) c.args.methods.now) c.method-item.result c.args.pairs.now.items c.loop-method.pairs.items c.push_method.new.pairs.items (taken_next c.args.methods.now c.loop-method.method-index c.method-item.result c.loop-method-test.true c.method-item.is) c.loop-method.invariant c.in_ok-push_method.ensures
