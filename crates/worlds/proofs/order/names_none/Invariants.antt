use Rattle.std.proofs.Common.{◌≢◌, take}
use Rattle.go_base.specs.Lists.{Each}
use Rattle.go_model.specs.types.Members.{field_sel}
use Rattle.worlds.proofs.order.names_none.Given as goal

abbrev pub invariant-loop-field : goal.invariant-loop-field
invariant-loop-field l = Each (λ f. (field_sel f).name ≢ l.sel.name) (take l.field-index l.fields)
