use Rattle.std.proofs.Common.{take, ◌+◌, refl}
use Rattle.go_selectors.proofs.Lists.{taken_next}
use Rattle.api_breaks.specs.inner.Interfaces.{WasMethod, IsMethodNew}
use Rattle.api_breaks.proofs.Telling.{told_none, told_more, told_all}
use Rattle.api_breaks.proofs.interfaces.push_all_new.Goals as goal

pub loop-method-init : goal.loop-method-init
loop-method-init c = told_none (WasMethod c.args.before.now) (IsMethodNew c.args.before.now) c.args.losses.now.items

pub loop-method-preserved : goal.loop-method-preserved
loop-method-preserved c = told_more (WasMethod c.args.before.now) (IsMethodNew c.args.before.now) (take c.loop-method.method-index c.args.after.now) (take (c.loop-method.method-index + 1) c.args.after.now) c.method-item.result c.args.losses.now.items c.loop-method.losses.items c.push_new.new.losses.items (taken_next c.args.after.now c.loop-method.method-index c.method-item.result c.loop-method-test.true c.method-item.is) c.loop-method.invariant c.in_ok-push_new.ensures

pub returns : goal.returns
returns c = told_all (WasMethod c.args.before.now) (IsMethodNew c.args.before.now) c.args.after.now c.args.after.now c.loop-method.method-index c.args.losses.now.items c.loop-method.losses.items refl c.loop-method-test.false c.loop-method.invariant
