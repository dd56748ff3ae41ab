use Rattle.std.proofs.Common.{take, ◌+◌, refl}
use Rattle.go_selectors.proofs.Lists.{taken_next}
use Rattle.api_breaks.proofs.Telling.{told_none, told_more, told_all}
use Rattle.api_further_breaks.specs.inner.Implementing.{KeepsOf, IsLostBy}
use Rattle.api_further_breaks.proofs.implementing.push_methods.Goals as goal

pub loop-method-init : goal.loop-method-init
loop-method-init c = told_none (KeepsOf c.args.sealed.now.pairs.items c.args.sealed.now.places c.args.callable.now c.args.called.now) (IsLostBy c.args.sealed.now.pairs.items c.args.sealed.now.places c.args.callable.now c.args.called.now) c.args.losses.now.items

pub loop-method-preserved : goal.loop-method-preserved
loop-method-preserved c = told_more (KeepsOf c.args.sealed.now.pairs.items c.args.sealed.now.places c.args.callable.now c.args.called.now) (IsLostBy c.args.sealed.now.pairs.items c.args.sealed.now.places c.args.callable.now c.args.called.now) (take c.loop-method.method-index c.args.methods.now) (take (c.loop-method.method-index + 1) c.args.methods.now) c.method-item.result c.args.losses.now.items c.loop-method.losses.items c.push_method.new.losses.items (taken_next c.args.methods.now c.loop-method.method-index c.method-item.result c.loop-method-test.true c.method-item.is) c.loop-method.invariant c.in_ok-push_method.ensures

pub returns : goal.returns
returns c = told_all (KeepsOf c.args.sealed.now.pairs.items c.args.sealed.now.places c.args.callable.now c.args.called.now) (IsLostBy c.args.sealed.now.pairs.items c.args.sealed.now.places c.args.callable.now c.args.called.now) c.args.methods.now c.args.methods.now c.loop-method.method-index c.args.losses.now.items c.loop-method.losses.items refl c.loop-method-test.false c.loop-method.invariant
