use Rattle.std.proofs.Common.{refl, None}
use Rattle.go_model.specs.types.Selectors.{field, field_ending}
use Rattle.go_model.specs.declared.types.term.Field.{out-Field}
use Rattle.go_selectors.proofs.Noting.{notes_one, notes_next}
use Rattle.go_selectors.proofs.candidates.note_fields.Goals as goal

pub loop-field-preserved : goal.loop-field-preserved
loop-field-preserved c = λ through. notes_next (λ s. field_ending s through) c.args.depth c.args.fields.now c.loop-field.field-index c.field-item.result c.args.candidates.now c.loop-field.candidates c.note.new.candidates c.loop-field-test.true c.field-item.is (c.loop-field.invariant through) (notes_one c.args.depth None c.loop-field.candidates c.note.new.candidates (out-Field c.field-item.result).sel (record { through = through; target = field (out-Field c.field-item.result).term }) refl c.in_ok-note.ensures)
