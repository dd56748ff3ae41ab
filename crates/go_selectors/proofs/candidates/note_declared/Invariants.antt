use Rattle.std.proofs.Common.{take, Option}
use Rattle.go_base.specs.Gathered.{gather}
use Rattle.go_model.specs.declared.types.names.TypeName.{TypeName}
use Rattle.go_model.specs.types.Selectors.{declared_ending}
use Rattle.go_selectors.specs.Candidates.{Notes}
use Rattle.go_selectors.proofs.candidates.note_declared.Given as goal

abbrev pub invariant-loop-method : goal.invariant-loop-method
invariant-loop-method l = (owner : Option TypeName) → Notes l.depth l.fn.candidates l.candidates (λ s. gather (declared_ending owner s l.through) (take l.method-index l.methods))
