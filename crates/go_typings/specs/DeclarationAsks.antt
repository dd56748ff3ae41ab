-- What a declaration is asked besides what it is given, once all is given.
-- Public source: Go specification, "Variable declarations", "Function declarations", "Method declarations",
-- "Program execution" and "Package initialization".
use Rattle.std.specs.Prelude.{◌≡◌, ◌≢◌, ℕ, Bool, true, false, ◌&&◌, List, [], ◌∷◌, ◌++◌, length, Option, None, Some, codes}
use Rattle.std.specs.Str.{bytes_eq}
use Rattle.go_references.specs.go_base.Lists.{Each, Has}
use Rattle.go_rules.specs.go_model.declared.types.package.Defined.{Defined}
use Rattle.go_rules.specs.go_model.declared.types.term.Field.{Field, out-Field}
use Rattle.go_rules.specs.go_model.declared.types.term.Term.{Term, out-Term}
use Rattle.go_rules.specs.go_model.types.Terms.{Layer}
use Rattle.go_rules.specs.go_model.types.Underlying.{fields_of}
use Rattle.go_rules.specs.go_model.worlds.Worlds.{bars_methods}
use Rattle.go_references.specs.go_syntax.declared.declaration.Func.{Func}
use Rattle.go_references.specs.go_syntax.declared.expression.Expr.{Expr}
use Rattle.go_references.specs.go_syntax.declared.name.Name.{Name}
use Rattle.go_references.specs.go_syntax.declared.types.ParameterDecl.{ParameterDecl, out-ParameterDecl}
use Rattle.go_references.specs.go_syntax.declared.types.Signature.{Signature as Sig, out-Signature as out-Sig}
use Rattle.go_references.specs.go_syntax.declared.types.«Type».{«Type» as Typ}
use Rattle.go_rules.specs.Asks.{AreDistinctNames, Meets, signature_names, texts}
use Rattle.go_rules.specs.Environments.{Env}
use Rattle.go_rules.specs.Expressions.{OfType, is_blank}
use Rattle.go_rules.specs.Usability.{UsableAs}
use Rattle.go_rules.specs.declared.operand.Operand.{Operand}
use Rattle.go_typings.specs.DeclarationNodes.{nodes}
use Rattle.go_typings.specs.Declarations.{Form, constants, variables, alias, definition, function, method, declarations, is_init}
use Rattle.go_typings.specs.Initializers.{Initialize}
use Rattle.go_typings.specs.Receivers.{DeclaredMethod, base, methods}
use Rattle.go_typings.specs.Sources.{PackageSource}

-- ---- variables

-- the values of variables of this type are as many and may be used as values of it, where there are any
abbrev pub AreUsable : Env → Typ → ℕ → List Expr → Type 0
AreUsable E t n [] = Unit {0}
AreUsable E t n (e ∷ es) = (v : Term) × (os : List Operand) × OfType E t v × Initialize E n (e ∷ es) os × Each (λ o. UsableAs E o v) os

abbrev pub ValuesFit : Env → Option Typ → ℕ → List Expr → Type 0
ValuesFit E None n es = Unit {0}
ValuesFit E (Some t) n es = AreUsable E t n es

-- ---- functions and methods

-- `init`, and `main` in a package of this name, are functions without parameters and results
abbrev pub is_main : PackageSource → List ℕ → Bool
is_main u name = bytes_eq name (codes "main") && bytes_eq u.name (codes "main")

abbrev pub IsBare : Sig → Type 0
IsBare g = ((out-Sig g).parameters ≡ []) × ((out-Sig g).result ≡ None)

pub record IsSpecialFunction (u : PackageSource) (f : Func) : Type 0 where
  pub init : is_init f.name.text ≡ true → IsBare f.signature
  pub main : is_main u f.name.text ≡ true → IsBare f.signature

-- nothing but a function is named so
pub record IsNotReserved (u : PackageSource) (name : Name) : Type 0 where
  pub init : is_init name.text ≡ false
  pub main : is_main u name.text ≡ false

-- no other method of the type has the name
abbrev pub IsOnly : PackageSource → ℕ → List ℕ → List ℕ → Type 0
IsOnly u number type name = (m : DeclaredMethod) → Has (methods u type) m → m.sel.name ≡ name → m.number ≡ number

-- no field of the level has the name
abbrev pub IsApart : Layer → List ℕ → Type 0
IsApart l name = (x : Field) → Has (fields_of l) x → (out-Field x).sel.name ≢ name

-- a method's receiver is of a defined type of the package, or of a pointer to one, under which is neither a pointer nor an
-- interface; the method's name, unless it is blank, is that of no other method and no field of the type; and the names of
-- the receiver, the parameters and the results are distinct
pub record IsMethod (E : Env) (u : PackageSource) (number : ℕ) (receiver : ParameterDecl) (f : Func) : Type 0 where
  pub type : List ℕ
  pub of : base (declarations u) receiver ≡ Some type
  pub defined : Defined
  pub entry : E.table (record { path = u.path; name = type }) ≡ Some defined
  pub permits_methods : bars_methods (out-Term defined.underlying) ≡ false
  pub only : is_blank f.name.text ≡ false → IsOnly u number type f.name.text
  pub apart : is_blank f.name.text ≡ false → IsApart (out-Term defined.underlying) f.name.text
  pub distinct : AreDistinctNames (texts (out-ParameterDecl receiver).names ++ signature_names f.signature)

-- ---- all declarations

-- what the declaration of this number is asked by its kind
abbrev pub FormAsks : Env → PackageSource → ℕ → Form → Type 0
FormAsks E u number (constants s place) = Each (IsNotReserved u) s.names
FormAsks E u number (variables s) = Each (IsNotReserved u) s.names × ValuesFit E s.type_ (length s.names) s.values
FormAsks E u number (alias s) = IsNotReserved u s.name
FormAsks E u number (definition s) = IsNotReserved u s.name
FormAsks E u number (function f) = IsSpecialFunction u f
FormAsks E u number (method receiver f) = IsMethod E u number receiver f

-- what is asked of a declaration: also of each type and signature in it
pub record Asks (E : Env) (u : PackageSource) (number : ℕ) (f : Form) : Type 0 where
  pub form : FormAsks E u number f
  pub meets : Each (Meets E) (nodes f)
