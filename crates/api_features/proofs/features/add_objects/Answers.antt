use Rattle.std.proofs.Common.{List, subst}
use Rattle.go_base.specs.Growing.{Grows}
use Rattle.go_base.proofs.Lists.{take_past}
use Rattle.go_model.specs.declared.types.package.Object.{Object}
use Rattle.api_features.specs.inner.FeatureLines.{IsObjectLine}
use Rattle.api_lines.proofs.Growing.{grows_next, OfSome}
use Rattle.api_features.proofs.features.add_objects.Goals as goal

pub loop-object-preserved : goal.loop-object-preserved
loop-object-preserved c =
    grows_next (IsObjectLine c.args.world.now c.args.«package».now) c.items-objects.result.now c.loop-object.object-index c.object-item.result _ c.loop-object.lines c.add_object.new.lines c.loop-object-test.true c.object-item.is c.loop-object.invariant c.in_ok-add_object.ensures

pub returns : goal.returns
returns c =
    subst (λ (w : List Object). Grows (OfSome (IsObjectLine c.args.world.now c.args.«package».now) w) c.args.lines.now c.loop-object.lines) c.items-objects.ensures
    (subst (λ (w : List Object). Grows (OfSome (IsObjectLine c.args.world.now c.args.«package».now) w) c.args.lines.now c.loop-object.lines) (take_past c.loop-object.object-index c.items-objects.result.now c.loop-object-test.false) c.loop-object.invariant)
