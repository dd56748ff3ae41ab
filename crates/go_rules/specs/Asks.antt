-- What the type forms and signatures in an expression are asked besides standing for a type: a map's key is comparable,
-- what is embedded may be, and names are distinct. It is asked once all types are had. With it, the operand of an
-- expression.
-- Public source: Go specification, "Struct types", "Interface types", "Map types" and "Function types"; that a client
-- of the profile embeds only its own and predeclared types is own.
use Rattle.std.specs.Prelude.{◌≡◌, ℕ, Bool, true, false, Option, Some, None, List, [], ◌∷◌, ◌++◌}
use Rattle.go_syntax.specs.go_base.Lists.{Has as In, Each, Once}
use Rattle.go_model.specs.declared.types.term.Term.{Term, Term-F, out-Term}
use Rattle.go_model.specs.types.Imports.{is_imported}
use Rattle.go_model.specs.types.Terms.{Layer, blank}
use Rattle.go_model.specs.types.Underlying.{under}
use Rattle.go_syntax.specs.declared.expression.Expr.{Expr}
use Rattle.go_syntax.specs.declared.name.Name.{Name}
use Rattle.go_syntax.specs.declared.name.QualifiedName.{QualifiedName}
use Rattle.go_syntax.specs.declared.types.FieldDecl.{FieldDecl, FieldDecl-F, out-FieldDecl}
use Rattle.go_syntax.specs.declared.types.FuncResult.{FuncResult, FuncResult-F, out-FuncResult}
use Rattle.go_syntax.specs.declared.types.InterfaceElem.{InterfaceElem, InterfaceElem-F, out-InterfaceElem}
use Rattle.go_syntax.specs.declared.types.ParameterDecl.{ParameterDecl, out-ParameterDecl}
use Rattle.go_syntax.specs.declared.types.Signature.{Signature as Sig, out-Signature as out-Sig}
use Rattle.go_syntax.specs.declared.types.«Type».{«Type» as Typ, «Type-F» as Typ-F, «out-Type» as out-Typ}
use Rattle.go_rules.specs.Environments.{Env, Entered}
use Rattle.go_rules.specs.Expressions.{Has, IsTypeName, OfType, is_blank}
use Rattle.go_rules.specs.Nodes.{Node, Stands, TypeLayer, FieldLayer, ElemLayer, ResultLayer, expression, type, signature}
use Rattle.go_rules.specs.Usability.{Compares}
use Rattle.go_rules.specs.declared.operand.Operand.{Operand}

-- ---- names

-- the names as bytes
abbrev pub texts : List Name → List (List ℕ)
texts [] = []
texts (n ∷ ns) = n.text ∷ texts ns

-- no two names but the blank one are the same
abbrev pub AreDistinctNames : List (List ℕ) → Type 0
AreDistinctNames [] = Unit {0}
AreDistinctNames (n ∷ ns) = ((other : List ℕ) → In ns other → other ≡ n → n ≡ blank) × AreDistinctNames ns

-- the names of parameters
abbrev pub parameter_names : List ParameterDecl → List (List ℕ)
parameter_names [] = []
parameter_names (d ∷ ds) = texts (out-ParameterDecl d).names ++ parameter_names ds

-- the names of results
abbrev pub result_names : ResultLayer → List (List ℕ)
result_names (FuncResult-F.Parameters ds) = parameter_names ds
result_names (FuncResult-F.«FuncResult::Type» t) = []

-- the names of results, where there is a result
abbrev pub optional_result_names : Option FuncResult → List (List ℕ)
optional_result_names None = []
optional_result_names (Some r) = result_names (out-FuncResult r)

-- the names of parameters and results
abbrev pub signature_names : Sig → List (List ℕ)
signature_names g = parameter_names (out-Sig g).parameters ++ optional_result_names (out-Sig g).result

-- the names of the fields that are declared, an embedded one by the name of its type
abbrev pub field_names : FieldLayer → List (List ℕ)
field_names (FieldDecl-F.«FieldDecl::Named» ns t tag) = texts ns
field_names (FieldDecl-F.«FieldDecl::Embedded» star q tag) = q.name.text ∷ []

-- the names of the fields of a struct type
abbrev pub fields_names : List FieldDecl → List (List ℕ)
fields_names [] = []
fields_names (d ∷ ds) = field_names (out-FieldDecl d) ++ fields_names ds

-- the names of the methods that stand in an interface itself
abbrev pub method_names : ElemLayer → List (List ℕ)
method_names (InterfaceElem-F.Method n g) = n.text ∷ []
method_names (InterfaceElem-F.«InterfaceElem::Embedded» q) = []

-- the names of the methods that stand in the elements of an interface
abbrev pub methods_names : List InterfaceElem → List (List ℕ)
methods_names [] = []
methods_names (x ∷ xs) = method_names (out-InterfaceElem x) ++ methods_names xs

-- ---- embedding

-- the level underneath an embedded type's name has no pointer, and behind a star no interface either
abbrev pub MayStandUnder : (star : Bool) → Layer → Type 0
MayStandUnder star (Term-F.Pointer base) = ⊥
MayStandUnder true (Term-F.Interface ms) = ⊥
MayStandUnder star l = Unit {0}

-- a client's own type, or a predeclared one
abbrev pub IsOwnLayer : Layer → Type 0
IsOwnLayer (Term-F.Named n) = is_imported n ≡ false
IsOwnLayer (Term-F.Plain b) = Unit {0}
IsOwnLayer (Term-F.Interface ms) = ms ≡ []
IsOwnLayer l = ⊥

-- a type that may be embedded: in a client of the profile only its own, or a predeclared one
abbrev pub MayEmbed : Env → Term → Type 0
MayEmbed E t = E.profile ≡ true → IsOwnLayer (out-Term t)

-- an embedded field is a type's name, or a pointer to one
pub record EmbedsField (E : Env) (star : Bool) (q : QualifiedName) : Type 0 where
  pub embedded : Term
  pub names : IsTypeName E q embedded
  pub entered : Entered E embedded
  pub stands : MayStandUnder star (under E.table embedded)
  pub permitted : MayEmbed E embedded

-- an embedded interface is a type's name
pub record EmbedsInterface (E : Env) (q : QualifiedName) : Type 0 where
  pub embedded : Term
  pub names : IsTypeName E q embedded
  pub permitted : MayEmbed E embedded

-- a field declaration meets what is asked of it
abbrev pub FieldMeets : Env → FieldLayer → Type 0
FieldMeets E (FieldDecl-F.«FieldDecl::Named» ns t tag) = Unit {0}
FieldMeets E (FieldDecl-F.«FieldDecl::Embedded» star q tag) = EmbedsField E star q

-- an element of an interface meets what is asked of it: a method isn't named `_`
abbrev pub ElementMeets : Env → ElemLayer → Type 0
ElementMeets E (InterfaceElem-F.Method n g) = is_blank n.text ≡ false
ElementMeets E (InterfaceElem-F.«InterfaceElem::Embedded» q) = EmbedsInterface E q

-- ---- what is asked

-- a type form meets what is asked of its form
abbrev pub TypeMeets : Env → TypeLayer → Type 0
TypeMeets E (Typ-F.Map key t) = (u : Term) × OfType E key u × Compares E u
TypeMeets E (Typ-F.Struct ds) = AreDistinctNames (fields_names ds) × Each (λ d. FieldMeets E (out-FieldDecl d)) ds
TypeMeets E (Typ-F.Interface xs) = Once (methods_names xs) × Each (λ x. ElementMeets E (out-InterfaceElem x)) xs
TypeMeets E l = Unit {0}

-- what is asked of each type form and signature in a tree, outside the bodies of function literals
pub record Meets (E : Env) (at : Node) : Type 0 where
  pub types : (t : Typ) → Stands at (type t) → TypeMeets E (out-Typ t)
  pub signatures : (g : Sig) → Stands at (signature g) → AreDistinctNames (signature_names g)

-- an expression has this operand: it is this operand, and all that is asked in it is met
pub record HasOperand (E : Env) (e : Expr) (o : Operand) : Type 0 where
  pub is : Has E e o
  pub meets : Meets E (expression e)

-- a type form stands for this type, and all that is asked in it is met
pub record IsType (E : Env) (t : Typ) (u : Term) : Type 0 where
  pub stands_for : OfType E t u
  pub meets : Meets E (type t)
