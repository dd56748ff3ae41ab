use Rattle.api_features.specs.inner.FeatureLines.{IsDeclaredRest, IsLineIn}
use Rattle.api_lines.proofs.Growing.{grows_next}
use Rattle.api_features.proofs.method_lines.add_each_declared.Goals as goal

pub loop-method-preserved : goal.loop-method-preserved
loop-method-preserved c =
    grows_next (λ m. IsLineIn (IsDeclaredRest c.args.of.now.world.now.packages c.args.of.now.path.now c.args.of.now.name.now m) c.args.of.now.path.now) c.args.methods.now c.loop-method.method-index c.method-item.result _ c.loop-method.lines c.add_declared.new.lines c.loop-method-test.true c.method-item.is c.loop-method.invariant c.in_ok-add_declared.ensures
