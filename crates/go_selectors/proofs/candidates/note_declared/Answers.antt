use Rattle.go_model.specs.types.Selectors.{method, declared_ending}
use Rattle.go_selectors.specs.Candidates.{signature_of}
use Rattle.go_selectors.proofs.Noting.{notes_one, notes_next}
use Rattle.go_selectors.proofs.candidates.note_declared.Goals as goal

pub loop-method-preserved : goal.loop-method-preserved
loop-method-preserved c = λ owner. notes_next (λ s. declared_ending owner s c.args.through) c.args.depth c.args.methods.now c.loop-method.method-index c.method-item.result c.args.candidates.now c.loop-method.candidates c.note.new.candidates c.loop-method-test.true c.method-item.is (c.loop-method.invariant owner) (notes_one c.args.depth (signature_of c.called-found.result) c.loop-method.candidates c.note.new.candidates c.method-item.result.sel (record { through = c.args.through; target = method owner c.method-item.result.pointer c.method-item.result.signature }) c.called-found.ensures c.in_ok-note.ensures)
