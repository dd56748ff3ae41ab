-- What a declaration is given in an environment: one case for each kind of declaration.
-- Public source: Go specification, "Constant declarations", "Type declarations", "Variable declarations",
-- "Function declarations", "Method declarations", "Underlying types"; that a client of the profile defines no type by the
-- name of another package's struct or interface is own, as is that no constant is of a floating-point or complex type.
use Rattle.std.specs.Prelude.{◌≡◌, ℕ, Bool, true, false, List, [], ◌∷◌, map, length, replicate, Option, None, Some, is_some}
use Rattle.go_rules.specs.go_model.constants.Classes.{class_of_basic, is_inexact}
use Rattle.go_rules.specs.go_model.declared.constants.value.Basic.{Basic}
use Rattle.go_rules.specs.go_model.declared.constants.value.Value.{Value}
use Rattle.go_rules.specs.go_model.declared.types.package.ConstTerm.{ConstTerm}
use Rattle.go_rules.specs.go_model.declared.types.package.ConstTerm.TheVariants as constant
use Rattle.go_rules.specs.go_model.declared.types.package.Entity.{Entity}
use Rattle.go_rules.specs.go_model.declared.types.package.Entity.TheVariants as entity
use Rattle.go_rules.specs.go_model.declared.types.term.Signature.{Signature}
use Rattle.go_rules.specs.go_model.declared.types.term.Term.{Term, Term-F, roll-Term}
use Rattle.go_rules.specs.go_model.types.Bounds.{IsWithinBounds}
use Rattle.go_rules.specs.go_model.types.Terms.{Layer}
use Rattle.go_rules.specs.go_model.types.Underlying.{under}
use Rattle.go_references.specs.go_syntax.declared.declaration.ConstSpec.{ConstSpec}
use Rattle.go_references.specs.go_syntax.declared.declaration.Func.{Func}
use Rattle.go_references.specs.go_syntax.declared.declaration.TypeSpec.{TypeSpec}
use Rattle.go_references.specs.go_syntax.declared.declaration.VarSpec.{VarSpec}
use Rattle.go_references.specs.go_syntax.declared.expression.Expr.{Expr}
use Rattle.go_references.specs.go_syntax.declared.name.QualifiedName.{QualifiedName}
use Rattle.go_references.specs.go_syntax.declared.types.ParameterDecl.{ParameterDecl}
use Rattle.go_references.specs.go_syntax.declared.types.Signature.{out-Signature as out-Sig}
use Rattle.go_references.specs.go_syntax.declared.types.«Type».{«Type» as Typ}
use Rattle.go_rules.specs.Environments.{Env}
use Rattle.go_rules.specs.Expressions.{Has, OfSignature, OfType}
use Rattle.go_rules.specs.Operands.{constant_of, function_of}
use Rattle.go_rules.specs.Usability.{UsableAs}
use Rattle.go_rules.specs.declared.operand.Operand.{Operand}
use Rattle.go_typings.specs.Declarations.{Form, constants, variables, alias, definition, function, method, Declaration}
use Rattle.go_typings.specs.Initializers.{Initialize, TypesOfValues}
use Rattle.go_typings.specs.PackageEnvironments.{Entry, objects, underlying, signed}
use Rattle.go_typings.specs.Receivers.{after_aliases, name_form, written_name}

-- the type or untyped kind of a constant whose value is of this one: its own, or the type that is given
pub data TypeOfConstant (E : Env) : Option Typ → ConstTerm → Value → ConstTerm → Type 0 where
  own_kind : {c : ConstTerm} {v : Value} → TypeOfConstant E None c v c
  given_type : {t : Typ} {u : Term} {b : Basic} {c : ConstTerm} {v : Value} → OfType E t u → under E.table u ≡ Term-F.Plain b → is_inexact (class_of_basic b) ≡ false → UsableAs E (constant_of c v) u → TypeOfConstant E (Some t) c v (constant.OfTerm u)

-- the constants of a spec with these values
pub data AreConstants (E : Env) (t : Option Typ) : List Expr → List Entity → Type 0 where
  constants_none : AreConstants E t [] []
  constants_more : {e : Expr} {es : List Expr} {c d : ConstTerm} {v : Value} {xs : List Entity} → Has E e (constant_of c v) → TypeOfConstant E t c v d → AreConstants E t es xs → AreConstants E t (e ∷ es) (entity.Const d v ∷ xs)

-- the level of a name of a type
abbrev pub is_name : Layer → Bool
is_name (Term-F.Named n) = true
is_name l = false

-- the level of a struct or interface type
abbrev pub is_struct_or_interface : Layer → Bool
is_struct_or_interface (Term-F.Struct fs) = true
is_struct_or_interface (Term-F.Interface ms) = true
is_struct_or_interface l = false

abbrev pub is_qualified : List Declaration → Option QualifiedName → Bool
is_qualified ds None = false
is_qualified ds (Some q) = is_some (after_aliases ds q).qualifier

-- in a client of the profile no type is defined by a name of another package, after the client's aliases, that stands for a
-- struct or interface
abbrev pub MayDefine : Env → List Declaration → Typ → Layer → Type 0
MayDefine E ds t l = E.profile ≡ true → is_qualified ds (written_name (name_form t)) ≡ true → is_struct_or_interface l ≡ false

-- what a declaration is given
pub data Gives (E : Env) (ds : List Declaration) : Form → Entry → Type 0 where
  gives_constants : {s : ConstSpec} {place : ℕ} {xs : List Entity} → AreConstants E s.type_ s.values xs → length s.names ≡ length s.values → Gives E ds (constants s place) (objects xs)
  gives_typed_variables : {s : VarSpec} {t : Typ} {u : Term} → s.type_ ≡ Some t → OfType E t u → Gives E ds (variables s) (objects (replicate (length s.names) (entity.Var u)))
  gives_variables : {s : VarSpec} {os : List Operand} {ts : List Term} → s.type_ ≡ None → Initialize E (length s.names) s.values os → TypesOfValues E os ts → Gives E ds (variables s) (objects (map entity.Var ts))
  gives_alias : {s : TypeSpec} {u : Term} → OfType E s.type_ u → Gives E ds (alias s) (objects (entity.TypeOf u ∷ []))
  gives_definition : {s : TypeSpec} {u : Term} {l : Layer} → OfType E s.type_ u → under E.table u ≡ l → is_name l ≡ false → MayDefine E ds s.type_ l → Gives E ds (definition s) (underlying (roll-Term l))
  gives_function : {f : Func} {g : Signature} → OfSignature E (out-Sig f.signature).parameters (out-Sig f.signature).result g → IsWithinBounds (function_of g) → Gives E ds (function f) (objects (entity.Function g ∷ []))
  gives_method : {receiver : ParameterDecl} {f : Func} {g : Signature} → OfSignature E (out-Sig f.signature).parameters (out-Sig f.signature).result g → IsWithinBounds (function_of g) → Gives E ds (method receiver f) (signed g)
