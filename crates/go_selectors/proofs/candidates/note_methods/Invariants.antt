use Rattle.std.proofs.Common.{Bool, take}
use Rattle.go_base.specs.Gathered.{gather}
use Rattle.go_model.specs.types.Selectors.{method_ending}
use Rattle.go_selectors.specs.Candidates.{Notes}
use Rattle.go_selectors.proofs.candidates.note_methods.Given as goal

abbrev pub invariant-loop-method : goal.invariant-loop-method
invariant-loop-method l = (through : Bool) → Notes l.depth l.fn.candidates l.candidates (λ s. gather (method_ending s through) (take l.method-index l.methods))
