use Rattle.std.proofs.Common.{take, ◌+◌, refl}
use Rattle.go_selectors.proofs.Lists.{taken_next}
use Rattle.api_breaks.specs.inner.Interfaces.{KeepsMethod, IsMethodGone}
use Rattle.api_breaks.proofs.Telling.{told_none, told_more, told_all}
use Rattle.api_breaks.proofs.interfaces.push_all_gone.Goals as goal

pub loop-method-init : goal.loop-method-init
loop-method-init c = told_none (KeepsMethod c.args.old.now c.args.after.now) (IsMethodGone c.args.old.now c.args.after.now) c.args.losses.now.items

pub loop-method-preserved : goal.loop-method-preserved
loop-method-preserved c = told_more (KeepsMethod c.args.old.now c.args.after.now) (IsMethodGone c.args.old.now c.args.after.now) (take c.loop-method.method-index c.args.before.now) (take (c.loop-method.method-index + 1) c.args.before.now) c.method-item.result c.args.losses.now.items c.loop-method.losses.items c.push_gone.new.losses.items (taken_next c.args.before.now c.loop-method.method-index c.method-item.result c.loop-method-test.true c.method-item.is) c.loop-method.invariant c.in_ok-push_gone.ensures

pub returns : goal.returns
returns c = told_all (KeepsMethod c.args.old.now c.args.after.now) (IsMethodGone c.args.old.now c.args.after.now) c.args.before.now c.args.before.now c.loop-method.method-index c.args.losses.now.items c.loop-method.losses.items refl c.loop-method-test.false c.loop-method.invariant
