use Rattle.std.proofs.Common.{◌≡◌, ◌++◌, drop}
use Rattle.go_base.specs.Gathered.{gather}
use Rattle.go_model.specs.types.Selectors.{field_ending}
use Rattle.go_selectors.specs.Endings.{endings_of}
use Rattle.go_selectors.proofs.steps.push_fields.Given as goal

abbrev pub invariant-loop-field : goal.invariant-loop-field
invariant-loop-field l = endings_of l.found.items ++ gather (field_ending l.sel l.through) (drop l.field-index l.fields) ≡ endings_of l.fn.found.items ++ gather (field_ending l.sel l.through) l.fields
