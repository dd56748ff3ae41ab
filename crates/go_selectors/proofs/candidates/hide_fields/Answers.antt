use Rattle.go_model.specs.types.Selectors.{field, field_ending}
use Rattle.go_model.specs.declared.types.term.Field.{out-Field}
use Rattle.go_selectors.proofs.OwnMethods.{hides_one, hides_next}
use Rattle.go_selectors.proofs.candidates.hide_fields.Goals as goal

pub loop-field-preserved : goal.loop-field-preserved
loop-field-preserved c = λ through. hides_next (λ s. field_ending s through) c.args.fields.now c.loop-field.field-index c.field-item.result c.args.candidates.now c.loop-field.candidates c.hide.new.candidates c.loop-field-test.true c.field-item.is (c.loop-field.invariant through) (hides_one c.loop-field.candidates c.hide.new.candidates (out-Field c.field-item.result).sel (record { through = through; target = field (out-Field c.field-item.result).term }) c.hide.ensures)
