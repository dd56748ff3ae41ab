-- Tables of defined types, which tell for a name its underlying type and its methods.
-- Public source: Go specification, "Type definitions" and "Method declarations".
use Rattle.std.specs.Prelude.{Option, Some, None}
use denote.Ref.{Bor}
use Rattle.go_model.specs.declared.types.names.TypeName.{TypeName}
use Rattle.go_model.specs.declared.types.package.Defined.{Defined}

abbrev pub Table : Type 0
Table = TypeName → Option Defined

-- what a look-up gave, as the table has it
abbrev pub entry_of : Option (Bor Defined) → Option Defined
entry_of None = None
entry_of (Some defined) = Some defined.now
