-- The type that a found method is declared for.
-- Public source: Go specification, "Method declarations".
use Rattle.std.specs.Prelude.{◌≡◌, Bool, false, Option, Some, None}
use Rattle.go_base.specs.Lists.{Has}
use Rattle.go_model.specs.types.Tables.{Table}
use Rattle.go_model.specs.types.Underlying.{entry, methods_of_entry}
use Rattle.go_model.specs.declared.types.names.Sel.{Sel}
use Rattle.go_model.specs.declared.types.names.TypeName.{TypeName}
use Rattle.go_model.specs.declared.types.term.Signature.{Signature}

-- the method is declared for its owner; without one it is an interface's, and has no pointer receiver
abbrev pub IsDeclaredFor : Table → Sel → Option TypeName → Bool → Signature → Type 0
IsDeclaredFor T s (Some n) pointer g = Has (methods_of_entry (entry T n)) (record { sel = s; pointer = pointer; signature = g })
IsDeclaredFor T s None pointer g = pointer ≡ false
