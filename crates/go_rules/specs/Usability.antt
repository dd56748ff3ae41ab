-- Where a value may be used as one of a type, where two values are of one type or kind, and the relations of types that
-- this rests on, each beside the entries of the names that it reads.
-- Public source: Go specification, "Assignability", "Representability", "Constants", "Conversions", "Operators" and
-- "Comparison operators".
use Rattle.std.specs.Prelude.{◌≡◌, ℕ, Bool, true, false, List, []}
use Rattle.go_syntax.specs.go_base.Lists.{Has}
use Rattle.go_model.specs.constants.Constants.{is_representable}
use Rattle.go_model.specs.declared.constants.value.Basic.{Basic}
use Rattle.go_model.specs.declared.constants.value.Basic.TheVariants as basic
use Rattle.go_model.specs.declared.constants.value.Untyped.{Untyped}
use Rattle.go_model.specs.declared.constants.value.Untyped.TheVariants as untyped
use Rattle.go_model.specs.declared.constants.value.Value.{Value}
use Rattle.go_model.specs.declared.types.package.ConstTerm.{ConstTerm}
use Rattle.go_model.specs.declared.types.package.ConstTerm.TheVariants as constant
use Rattle.go_model.specs.declared.types.term.Field.{Field, out-Field}
use Rattle.go_model.specs.declared.types.term.Method.{Method, out-Method}
use Rattle.go_model.specs.declared.types.term.Term.{Term, Term-F, out-Term}
use Rattle.go_model.specs.types.Assignability.{UnderlyingAssigns, ChannelAssigns}
use Rattle.go_model.specs.types.Comparison.{Comparable}
use Rattle.go_model.specs.types.Conversions.{UnderlyingConverts, PointerConverts, basics_convert}
use Rattle.go_model.specs.types.Tables.{Table}
use Rattle.go_model.specs.types.Terms.{Layer}
use Rattle.go_model.specs.types.Underlying.{under}
use Rattle.go_rules.specs.Environments.{Env, Entered, HasMethod}
use Rattle.go_rules.specs.Operands.{IsTyped, IsUntyped, constant_of, default_type, loose, nil}
use Rattle.go_rules.specs.declared.operand.Operand.{Operand}

-- ---- relations of types

-- the type implements the interface
abbrev pub Implements : Env → Term → Term → Type 0
Implements E t interface =
    (ms : List Method) × (under E.table interface ≡ Term-F.Interface ms)
    × ((m : Method) → Has ms m → HasMethod E false t (out-Method m).sel (out-Method m).signature)

-- a value of the one type is assignable to the other
pub data Assignable (E : Env) (from to : Term) : Type 0 where
  assign_identical : from ≡ to → Assignable E from to
  assign_underlying : Entered E from → Entered E to → UnderlyingAssigns E.table E.profile from to → Assignable E from to
  assign_interface : Implements E from to → Assignable E from to
  assign_channel : ChannelAssigns E.table from to → Assignable E from to

-- the bases of two pointer types have their entries
abbrev pub BasesEntered : Env → Layer → Layer → Type 0
BasesEntered E (Term-F.Pointer base) (Term-F.Pointer other) = Entered E base × Entered E other
BasesEntered E k l = Unit {0}

-- a value of the one type, which isn't constant, is convertible to the other
pub data Convertible (E : Env) (from to : Term) : Type 0 where
  convert_assignable : Assignable E from to → Convertible E from to
  convert_underlying : Entered E from → Entered E to → UnderlyingConverts E.table E.profile from to → Convertible E from to
  convert_pointer : BasesEntered E (out-Term from) (out-Term to) → PointerConverts E.table E.profile from to → Convertible E from to
  convert_basic : basics_convert E.table from to ≡ true → Convertible E from to

-- a path through fields of structs and elements of arrays leads from the type to another
pub data LeadsTo (T : Table) : Term → Term → Type 0 where
  leads_here : {t : Term} → LeadsTo T t t
  leads_array : {t e u : Term} {n : ℕ} → under T t ≡ Term-F.Array n e → LeadsTo T e u → LeadsTo T t u
  leads_struct : {t u : Term} {fs : List Field} (f : Field) → under T t ≡ Term-F.Struct fs → Has fs f → LeadsTo T (out-Field f).term u → LeadsTo T t u

-- two values of the type can be compared, and each type to which a path leads has its entry
pub record Compares (E : Env) (t : Term) : Type 0 where
  pub comparable : Comparable E.table t
  pub entered : (u : Term) → LeadsTo E.table t u → Entered E u

-- ---- use of a value

-- the levels of types whose values may be nil
abbrev pub holds_nil : Layer → Bool
holds_nil (Term-F.Pointer e) = true
holds_nil (Term-F.Func g) = true
holds_nil (Term-F.Slice e) = true
holds_nil (Term-F.Map k e) = true
holds_nil (Term-F.Chan d e) = true
holds_nil (Term-F.Interface ms) = true
holds_nil l = false

-- the default type of the untyped kind can hold the value
abbrev pub DefaultHolds : Env → Untyped → Value → Type 0
DefaultHolds E k v = (b : Basic) × (out-Term (default_type k) ≡ Term-F.Plain b) × (is_representable v b E.bits ≡ true)

-- the operand may be used as a value of the type
pub data UsableAs (E : Env) : Operand → Term → Type 0 where
  use_value : {o : Operand} {t u : Term} → IsTyped o u → Assignable E u t → UsableAs E o t
  use_constant : {k : Untyped} {v : Value} {t : Term} {b : Basic} → under E.table t ≡ Term-F.Plain b → is_representable v b E.bits ≡ true → UsableAs E (constant_of (constant.OfKind k) v) t
  use_truth : {t : Term} → under E.table t ≡ Term-F.Plain basic.Bool → UsableAs E (loose untyped.BoolKind) t
  use_constant_as_any : {k : Untyped} {v : Value} {t : Term} → under E.table t ≡ Term-F.Interface [] → DefaultHolds E k v → UsableAs E (constant_of (constant.OfKind k) v) t
  use_truth_as_any : {t : Term} → under E.table t ≡ Term-F.Interface [] → UsableAs E (loose untyped.BoolKind) t
  use_nil : {t : Term} → holds_nil (under E.table t) ≡ true → UsableAs E nil t

-- the untyped kind of two that may stand together
abbrev pub JoinsTo : Untyped → Untyped → Untyped → Type 0
JoinsTo untyped.IntKind untyped.RuneKind k = k ≡ untyped.RuneKind
JoinsTo untyped.RuneKind untyped.IntKind k = k ≡ untyped.RuneKind
JoinsTo left right k = (left ≡ right) × (k ≡ left)

-- two values match: they are of this type or untyped kind, which an untyped one takes from the other
pub data Match (E : Env) (left right : Operand) : ConstTerm → Type 0 where
  match_types : {t : Term} → IsTyped left t → IsTyped right t → Match E left right (constant.OfTerm t)
  match_right : {k : Untyped} {t : Term} → IsUntyped left k → IsTyped right t → UsableAs E left t → Match E left right (constant.OfTerm t)
  match_left : {k : Untyped} {t : Term} → IsTyped left t → IsUntyped right k → UsableAs E right t → Match E left right (constant.OfTerm t)
  match_kinds : {j k l : Untyped} → IsUntyped left j → IsUntyped right k → JoinsTo j k l → Match E left right (constant.OfKind l)
