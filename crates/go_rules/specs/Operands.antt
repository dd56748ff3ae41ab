-- Operands: what an expression denotes, how, and of which type or kind.
-- Public source: Go specification, "Expressions", "Operands", "Constants", "Representability" and "Address operators";
-- bounds of types are own.
use Rattle.std.specs.Prelude.{◌≡◌, Bool, true, false, List, []}
use Rattle.go_syntax.specs.go_base.Lists.{Each}
use Rattle.go_model.specs.declared.constants.value.Basic.{Basic}
use Rattle.go_model.specs.declared.constants.value.Basic.TheVariants as basic
use Rattle.go_model.specs.declared.constants.value.Kind.{Kind}
use Rattle.go_model.specs.declared.constants.value.Kind.TheVariants as kind
use Rattle.go_model.specs.declared.constants.value.Untyped.{Untyped}
use Rattle.go_model.specs.declared.constants.value.Untyped.TheVariants as untyped
use Rattle.go_model.specs.declared.constants.value.Value.{Value}
use Rattle.go_model.specs.declared.types.package.ConstTerm.{ConstTerm}
use Rattle.go_model.specs.declared.types.package.ConstTerm.TheVariants as constant
use Rattle.go_model.specs.declared.types.package.Entity.{Entity}
use Rattle.go_model.specs.declared.types.package.Entity.TheVariants as entity
use Rattle.go_model.specs.declared.types.term.Signature.{Signature}
use Rattle.go_model.specs.declared.types.term.Term.{Term, Term-F, roll-Term}
use Rattle.go_model.specs.types.Bounds.{IsWithinBounds}
use Rattle.go_model.specs.types.Underlying.{under}
use Rattle.go_rules.specs.Environments.{Env}
use Rattle.go_rules.specs.declared.operand.Mode.{Mode}
use Rattle.go_rules.specs.declared.operand.Mode.TheVariants as mode
use Rattle.go_rules.specs.declared.operand.Operand.{Operand}
use Rattle.go_rules.specs.declared.operand.Shape.{Shape}
use Rattle.go_rules.specs.declared.operand.Shape.TheVariants as shape
use Rattle.go_rules.specs.declared.predeclared.Predeclared.{Predeclared}

-- ---- types of levels

-- a basic type
abbrev pub basic_term : Basic → Term
basic_term b = roll-Term (Term-F.Plain b)

-- the function type of the signature
abbrev pub function_of : Signature → Term
function_of g = roll-Term (Term-F.Func g)

-- `any`
abbrev pub any_term : Term
any_term = roll-Term (Term-F.Interface [])

-- ---- the operands, by what they denote

-- a call without results
abbrev pub no_value : Operand
no_value = record { mode = mode.NoValue; shape = shape.Empty }

-- the predeclared `nil`
abbrev pub nil : Operand
nil = record { mode = mode.Nil; shape = shape.Empty }

-- a type
abbrev pub type_name : Term → Operand
type_name t = record { mode = mode.TypeName; shape = shape.Of t }

-- a constant, of a type or an untyped kind
abbrev pub constant_of : ConstTerm → Value → Operand
constant_of c v = record { mode = mode.Constant; shape = shape.Fixed c v }

-- a value of a type that isn't constant, by its mode
abbrev pub value_of : Mode → Term → Operand
value_of m t = record { mode = m; shape = shape.Of t }

-- a value that is neither addressable nor an element of a map
abbrev pub plain : Term → Operand
plain t = value_of mode.Plain t

-- an addressable value
abbrev pub variable : Term → Operand
variable t = value_of mode.Variable t

-- a value of an untyped kind that isn't constant: the result of a comparison
abbrev pub loose : Untyped → Operand
loose k = record { mode = mode.Plain; shape = shape.Loose k }

-- a builtin function
abbrev pub builtin : Predeclared → Operand
builtin p = record { mode = mode.Builtin; shape = shape.OfBuiltin p }

-- the results of a call with several
abbrev pub tuple : List Term → Operand
tuple ts = record { mode = mode.Tuple; shape = shape.Many ts }

-- what an object of a package denotes
abbrev pub denoted : Entity → Operand
denoted (entity.Const c v) = constant_of c v
denoted (entity.Var t) = variable t
denoted (entity.Function g) = plain (function_of g)
denoted (entity.TypeOf t) = type_name t

-- the result of a computation that isn't constant
abbrev pub computed : ConstTerm → Operand
computed (constant.OfTerm t) = plain t
computed (constant.OfKind k) = loose k

-- ---- values and their types

-- the modes of values that aren't constants
abbrev pub is_value_mode : Mode → Bool
is_value_mode mode.Variable = true
is_value_mode mode.Plain = true
is_value_mode mode.MapElement = true
is_value_mode m = false

-- the mode of addressable values
abbrev pub is_variable : Mode → Bool
is_variable mode.Variable = true
is_variable m = false

-- the operand is a value of this type
pub data IsTyped : Operand → Term → Type 0 where
  typed_value : {m : Mode} {t : Term} → is_value_mode m ≡ true → IsTyped (value_of m t) t
  typed_constant : {t : Term} {v : Value} → IsTyped (constant_of (constant.OfTerm t) v) t

-- the operand is a value of this untyped kind
pub data IsUntyped : Operand → Untyped → Type 0 where
  untyped_constant : {k : Untyped} {v : Value} → IsUntyped (constant_of (constant.OfKind k) v) k
  untyped_truth : IsUntyped (loose untyped.BoolKind) untyped.BoolKind

-- the operand is a value of this type or untyped kind
pub data IsOf : Operand → ConstTerm → Type 0 where
  is_of_type : {o : Operand} {t : Term} → IsTyped o t → IsOf o (constant.OfTerm t)
  is_of_kind : {o : Operand} {k : Untyped} → IsUntyped o k → IsOf o (constant.OfKind k)

-- a type or untyped kind has this kind: its own, or that of the basic type underneath
pub data HasKind (E : Env) : ConstTerm → Kind → Type 0 where
  kind_of_type : {t : Term} {b : Basic} → under E.table t ≡ Term-F.Plain b → HasKind E (constant.OfTerm t) (kind.Typed b)
  kind_of_untyped : {k : Untyped} → HasKind E (constant.OfKind k) (kind.Loose k)

-- the type that a value of the untyped kind has where no other is wanted
abbrev pub default_type : Untyped → Term
default_type untyped.IntKind = basic_term basic.Int
default_type untyped.RuneKind = basic_term basic.Int32
default_type untyped.StrKind = basic_term basic.Str
default_type untyped.BoolKind = basic_term basic.Bool

-- ---- bounds

-- the type of a constant, where it has one, is neither too large nor too high
abbrev pub ConstWithin : ConstTerm → Type 0
ConstWithin (constant.OfTerm t) = IsWithinBounds t
ConstWithin (constant.OfKind k) = Unit {0}

-- each type in the operand is neither too large nor too high
abbrev pub ShapeWithin : Shape → Type 0
ShapeWithin (shape.Of t) = IsWithinBounds t
ShapeWithin (shape.Fixed c v) = ConstWithin c
ShapeWithin (shape.Many ts) = Each IsWithinBounds ts
ShapeWithin s = Unit {0}
