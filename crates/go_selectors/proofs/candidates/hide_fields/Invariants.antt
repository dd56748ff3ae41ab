use Rattle.std.proofs.Common.{Bool, take}
use Rattle.go_base.specs.Gathered.{gather}
use Rattle.go_model.specs.types.Selectors.{field_ending}
use Rattle.go_selectors.specs.Candidates.{Hides}
use Rattle.go_selectors.proofs.candidates.hide_fields.Given as goal

abbrev pub invariant-loop-field : goal.invariant-loop-field
invariant-loop-field l = (through : Bool) → Hides l.fn.candidates l.candidates (λ s. gather (field_ending s through) (take l.field-index l.fields))
