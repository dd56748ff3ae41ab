use Rattle.std.proofs.Common.{take, ◌+◌}
use Rattle.go_selectors.proofs.Lists.{taken_next}
use Rattle.api_correspond.proofs.Growing.{of_none, of_more}
use Rattle.api_breaks.specs.inner.Objects.{IsOfObject}
use Rattle.api_breaks.proofs.PackageBreaks.{objects_all}
use Rattle.api_breaks.proofs.packages.push_objects.Goals as goal

pub loop-object-init : goal.loop-object-init
loop-object-init c = of_none (IsOfObject c.args.path.now c.args.after.now) c.args.breaks.now.items

pub loop-object-preserved : goal.loop-object-preserved
loop-object-preserved c = of_more (IsOfObject c.args.path.now c.args.after.now) (take c.loop-object.object-index c.items-objects.result.now) (take (c.loop-object.object-index + 1) c.items-objects.result.now) c.object-item.result c.args.breaks.now.items c.loop-object.breaks.items c.push_object.new.breaks.items (taken_next c.items-objects.result.now c.loop-object.object-index c.object-item.result c.loop-object-test.true c.object-item.is) c.loop-object.invariant c.in_ok-push_object.ensures

pub returns : goal.returns
returns c = objects_all c.args.path.now c.args.after.now c.args.before.now.objects c.items-objects.result.now c.loop-object.object-index c.args.breaks.now.items c.loop-object.breaks.items c.items-objects.ensures c.loop-object-test.false c.loop-object.invariant
