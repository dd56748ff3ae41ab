use Rattle.std.proofs.Common.{take, ◌+◌, refl}
use Rattle.go_selectors.proofs.Lists.{taken_next}
use Rattle.api_breaks.specs.inner.MethodSets.{KeepsCalled, IsLostIn}
use Rattle.api_breaks.proofs.Telling.{told_none, told_more, told_all}
use Rattle.api_breaks.proofs.method_sets.push_all_lost.Goals as goal

pub loop-method-init : goal.loop-method-init
loop-method-init c = told_none (KeepsCalled c.args.old.now c.args.callable.now) (IsLostIn c.args.old.now c.args.callable.now) c.args.losses.now.items

pub loop-method-preserved : goal.loop-method-preserved
loop-method-preserved c = told_more (KeepsCalled c.args.old.now c.args.callable.now) (IsLostIn c.args.old.now c.args.callable.now) (take c.loop-method.method-index c.args.methods.now) (take (c.loop-method.method-index + 1) c.args.methods.now) c.method-item.result c.args.losses.now.items c.loop-method.losses.items c.push_lost.new.losses.items (taken_next c.args.methods.now c.loop-method.method-index c.method-item.result c.loop-method-test.true c.method-item.is) c.loop-method.invariant c.in_ok-push_lost.ensures

pub returns : goal.returns
returns c = told_all (KeepsCalled c.args.old.now c.args.callable.now) (IsLostIn c.args.old.now c.args.callable.now) c.args.methods.now c.args.methods.now c.loop-method.method-index c.args.losses.now.items c.loop-method.losses.items refl c.loop-method-test.false c.loop-method.invariant
