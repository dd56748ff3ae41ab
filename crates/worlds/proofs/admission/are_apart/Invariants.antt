use Rattle.std.proofs.Common.{◌≢◌, take}
use Rattle.go_base.specs.Lists.{Each}
use Rattle.go_model.specs.types.Members.{field_sel}
use Rattle.worlds.proofs.admission.are_apart.Given as goal

abbrev pub invariant-loop-method : goal.invariant-loop-method
invariant-loop-method l = Each (λ m. Each (λ f. (field_sel f).name ≢ m.sel.name) l.fields) (take l.method-index l.methods)
