use Rattle.api_features.specs.inner.FeatureLines.{IsFieldRest, IsLineIn}
use Rattle.api_lines.proofs.Growing.{grows_next}
use Rattle.api_features.proofs.struct_lines.add_fields.Goals as goal

pub loop-field-preserved : goal.loop-field-preserved
loop-field-preserved c =
    grows_next (λ f. IsLineIn (IsFieldRest c.args.of.now.world.now.packages c.args.of.now.path.now c.args.of.now.name.now f) c.args.of.now.path.now) c.args.fields.now c.loop-field.field-index c.field-item.result _ c.loop-field.lines c.add_field.new.lines c.loop-field-test.true c.field-item.is c.loop-field.invariant c.in_ok-add_field.ensures
