use Rattle.std.proofs.Common.{refl, false, Some, None}
use Rattle.go_model.specs.types.Selectors.{method, method_ending}
use Rattle.go_model.specs.declared.types.term.Method.{out-Method}
use Rattle.go_selectors.proofs.Noting.{notes_one, notes_next}
use Rattle.go_selectors.proofs.candidates.note_methods.Goals as goal

pub loop-method-preserved : goal.loop-method-preserved
loop-method-preserved c = λ through. notes_next (λ s. method_ending s through) c.args.depth c.args.methods.now c.loop-method.method-index c.method-item.result c.args.candidates.now c.loop-method.candidates c.note.new.candidates c.loop-method-test.true c.method-item.is (c.loop-method.invariant through) (notes_one c.args.depth (Some (out-Method c.method-item.result).signature) c.loop-method.candidates c.note.new.candidates (out-Method c.method-item.result).sel (record { through = through; target = method None false (out-Method c.method-item.result).signature }) refl c.in_ok-note.ensures)
