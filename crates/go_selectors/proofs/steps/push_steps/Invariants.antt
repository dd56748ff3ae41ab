use Rattle.std.proofs.Common.{◌≡◌, ◌++◌, drop}
use Rattle.go_base.specs.Gathered.{gather}
use Rattle.go_model.specs.types.Selectors.{step}
use Rattle.go_selectors.proofs.steps.push_steps.Given as goal

abbrev pub invariant-loop-field : goal.invariant-loop-field
invariant-loop-field l = l.all.items ++ gather (step l.through) (drop l.field-index l.fields) ≡ l.fn.all.items ++ gather (step l.through) l.fields
