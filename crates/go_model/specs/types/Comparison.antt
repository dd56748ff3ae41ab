-- Types whose values can be compared.
-- Public source: Go specification, "Comparison operators".
use Rattle.std.specs.Prelude.{◌≡◌, ℕ, List}
use Rattle.go_base.specs.Lists.{Has}
use Rattle.go_model.specs.types.Tables.{Table}
use Rattle.go_model.specs.types.Underlying.{under}
use Rattle.go_model.specs.declared.types.term.Term.{Term, Term-F}
use Rattle.go_model.specs.declared.types.term.Field.{Field, out-Field}
use Rattle.go_model.specs.declared.types.term.Signature.{Signature}

-- a path through fields of structs and elements of arrays leads from the type to a slice, a map or a function
pub data LeadsToIncomparable (T : Table) : Term → Type 0 where
  at_slice : {t e : Term} → under T t ≡ Term-F.Slice e → LeadsToIncomparable T t
  at_map : {t k e : Term} → under T t ≡ Term-F.Map k e → LeadsToIncomparable T t
  at_func : {t : Term} {g : Signature} → under T t ≡ Term-F.Func g → LeadsToIncomparable T t
  in_array : {t e : Term} {n : ℕ} → under T t ≡ Term-F.Array n e → LeadsToIncomparable T e → LeadsToIncomparable T t
  in_struct : {t : Term} {fs : List Field} (f : Field) → under T t ≡ Term-F.Struct fs → Has fs f → LeadsToIncomparable T (out-Field f).term → LeadsToIncomparable T t

-- two values of the type can be compared
abbrev pub Comparable : Table → Term → Type 0
Comparable T t = LeadsToIncomparable T t → ⊥
