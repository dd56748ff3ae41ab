-- Tables of the fields of a struct type by their selectors.
-- Own: words of the contracts inside this crate.
use Rattle.std.specs.Prelude.{◌≡◌, List, [], ◌∷◌, Option, None, Some, if◌then◌else◌}
use Rattle.std.specs.BTreeMap.{BTreeMap, get}
use denote.Ref.{Bor}
use Rattle.go_base.specs.Keys.{item_of}
use Rattle.go_model.specs.declared.types.names.Sel.{Sel}
use Rattle.go_model.specs.declared.types.term.Field.{Field}
use Rattle.go_model.specs.types.Members.{field_sel}
use Rattle.go_model.specs.types.MethodSets.{sel_order}
use Rattle.go_model.specs.types.Terms.{same_sel}

abbrev pub FieldTable : Type 0
FieldTable = BTreeMap Sel (Bor Field)

-- the field under a selector
abbrev pub field_at : FieldTable → Sel → Option Field
field_at m s = item_of (get sel_order m s)

-- the field was put under its selector
abbrev pub Puts : FieldTable → FieldTable → Field → Type 0
Puts old new f = (s : Sel) → field_at new s ≡ (if same_sel (field_sel f) s then Some f else field_at old s)

-- the first field with the selector
abbrev pub first_with : List Field → Sel → Option Field
first_with [] s = None
first_with (f ∷ fs) s = if same_sel (field_sel f) s then Some f else first_with fs s

-- under each selector stands the first field with it
abbrev pub AreTabled : List Field → FieldTable → Type 0
AreTabled fs m = (s : Sel) → field_at m s ≡ first_with fs s

-- the same, where there is a table
abbrev pub MayBeTabled : List Field → Option FieldTable → Type 0
MayBeTabled fs None = Unit {0}
MayBeTabled fs (Some m) = AreTabled fs m
