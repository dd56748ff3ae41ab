-- The parts of expressions and types as they are written, outside the bodies of function literals, and what stands in
-- what.
-- Public source: Go specification, "Types" and "Expressions".
use Rattle.std.specs.Prelude.{List, [], ◌∷◌, ◌++◌, map, Option, None, Some}
use Rattle.go_syntax.specs.go_base.Lists.{Has}
use Rattle.go_syntax.specs.declared.expression.Element.{Element, out-Element}
use Rattle.go_syntax.specs.declared.expression.ElementValue.{ElementValue, ElementValue-F, out-ElementValue}
use Rattle.go_syntax.specs.declared.expression.Expr.{Expr, Expr-F, out-Expr}
use Rattle.go_syntax.specs.declared.expression.Post.{Post, Post-F, out-Post}
use Rattle.go_syntax.specs.declared.types.FieldDecl.{FieldDecl, FieldDecl-F, out-FieldDecl}
use Rattle.go_syntax.specs.declared.types.FuncResult.{FuncResult, FuncResult-F, out-FuncResult}
use Rattle.go_syntax.specs.declared.types.InterfaceElem.{InterfaceElem, InterfaceElem-F, out-InterfaceElem}
use Rattle.go_syntax.specs.declared.types.ParameterDecl.{ParameterDecl, out-ParameterDecl}
use Rattle.go_syntax.specs.declared.types.Signature.{Signature, out-Signature}
use Rattle.go_syntax.specs.declared.types.«Type».{«Type» as Typ, «Type-F» as Typ-F, «out-Type» as out-Typ}

-- one level of an expression, whose parts are trees
abbrev pub ExprLayer : Type 0
ExprLayer = Expr-F ElementValue Expr Post FieldDecl FuncResult InterfaceElem Typ Element ParameterDecl Signature

-- the same of a post
abbrev pub PostLayer : Type 0
PostLayer = Post-F ElementValue Expr Post FieldDecl FuncResult InterfaceElem Typ Element ParameterDecl Signature

-- the same of a type
abbrev pub TypeLayer : Type 0
TypeLayer = Typ-F ElementValue Expr Post FieldDecl FuncResult InterfaceElem Typ Element ParameterDecl Signature

-- the same of a value of a composite literal
abbrev pub ValueLayer : Type 0
ValueLayer = ElementValue-F ElementValue Expr Post FieldDecl FuncResult InterfaceElem Typ Element ParameterDecl Signature

-- the same of a field declaration
abbrev pub FieldLayer : Type 0
FieldLayer = FieldDecl-F ElementValue Expr Post FieldDecl FuncResult InterfaceElem Typ Element ParameterDecl Signature

-- the same of an element of an interface
abbrev pub ElemLayer : Type 0
ElemLayer = InterfaceElem-F ElementValue Expr Post FieldDecl FuncResult InterfaceElem Typ Element ParameterDecl Signature

-- the same of a result
abbrev pub ResultLayer : Type 0
ResultLayer = FuncResult-F ElementValue Expr Post FieldDecl FuncResult InterfaceElem Typ Element ParameterDecl Signature

-- a tree of an expression, a post, a value of a composite literal, a type or a signature
pub data Node : Type 0 where
  expression : Expr → Node
  post : Post → Node
  value : ElementValue → Node
  type : Typ → Node
  signature : Signature → Node

-- the part that may be left out
abbrev pub optional : {A : Type 0} → (A → Node) → Option A → List Node
optional node None = []
optional node (Some x) = node x ∷ []

-- ---- the parts of a level

-- the parts of the elements of a composite literal
abbrev pub element_parts : List Element → List Node
element_parts [] = []
element_parts (x ∷ xs) = optional value (out-Element x).key ++ value (out-Element x).value ∷ element_parts xs

-- the parts of parameters
abbrev pub parameter_parts : List ParameterDecl → List Node
parameter_parts [] = []
parameter_parts (d ∷ ds) = type (out-ParameterDecl d).type_ ∷ parameter_parts ds

-- the parts of a result
abbrev pub result_parts : ResultLayer → List Node
result_parts (FuncResult-F.Parameters ds) = parameter_parts ds
result_parts (FuncResult-F.«FuncResult::Type» t) = type t ∷ []

-- the parts of a result that may be left out
abbrev pub optional_result_parts : Option FuncResult → List Node
optional_result_parts None = []
optional_result_parts (Some r) = result_parts (out-FuncResult r)

-- the parts of a field declaration
abbrev pub field_parts : FieldLayer → List Node
field_parts (FieldDecl-F.«FieldDecl::Named» names t tag) = type t ∷ []
field_parts (FieldDecl-F.«FieldDecl::Embedded» star name tag) = []

-- the parts of field declarations
abbrev pub fields_parts : List FieldDecl → List Node
fields_parts [] = []
fields_parts (f ∷ fs) = field_parts (out-FieldDecl f) ++ fields_parts fs

-- the parts of an element of an interface
abbrev pub elem_parts : ElemLayer → List Node
elem_parts (InterfaceElem-F.Method name g) = signature g ∷ []
elem_parts (InterfaceElem-F.«InterfaceElem::Embedded» name) = []

-- the parts of the elements of an interface
abbrev pub elems_parts : List InterfaceElem → List Node
elems_parts [] = []
elems_parts (x ∷ xs) = elem_parts (out-InterfaceElem x) ++ elems_parts xs

-- the parts of a type
abbrev pub type_parts : TypeLayer → List Node
type_parts (Typ-F.«Type::Named» name) = []
type_parts (Typ-F.«Type::Paren» t) = type t ∷ []
type_parts (Typ-F.Pointer t) = type t ∷ []
type_parts (Typ-F.«Type::Slice» t) = type t ∷ []
type_parts (Typ-F.Array length t) = expression length ∷ type t ∷ []
type_parts (Typ-F.Map key t) = type key ∷ type t ∷ []
type_parts (Typ-F.Chan t) = type t ∷ []
type_parts (Typ-F.SendChan t) = type t ∷ []
type_parts (Typ-F.ReceiveChan t) = type t ∷ []
type_parts (Typ-F.Func g) = signature g ∷ []
type_parts (Typ-F.Struct fs) = fields_parts fs
type_parts (Typ-F.Interface xs) = elems_parts xs

-- the parts of an expression
abbrev pub expression_parts : ExprLayer → List Node
expression_parts (Expr-F.Or x xs) = expression x ∷ map expression xs
expression_parts (Expr-F.And x xs) = expression x ∷ map expression xs
expression_parts (Expr-F.Compare x ops xs) = expression x ∷ map expression xs
expression_parts (Expr-F.Sum x ops xs) = expression x ∷ map expression xs
expression_parts (Expr-F.Product x ops xs) = expression x ∷ map expression xs
expression_parts (Expr-F.Prefix op x) = expression x ∷ []
expression_parts (Expr-F.Primary x ps) = expression x ∷ map post ps
expression_parts (Expr-F.«Expr::Literal» l) = []
expression_parts (Expr-F.Name n) = []
expression_parts (Expr-F.FuncLit g body) = signature g ∷ []
expression_parts (Expr-F.Composite t xs) = type t ∷ element_parts xs
expression_parts (Expr-F.CompositeArray t xs) = type t ∷ element_parts xs
expression_parts (Expr-F.«Expr::Type» t) = type t ∷ []
expression_parts (Expr-F.«Expr::Paren» x) = expression x ∷ []
expression_parts (Expr-F.ParenReceiveChan t) = type t ∷ []

-- the parts of a post
abbrev pub post_parts : PostLayer → List Node
post_parts (Post-F.Selector n) = []
post_parts (Post-F.TypeAssertion t) = type t ∷ []
post_parts (Post-F.Index x) = expression x ∷ []
post_parts (Post-F.«Post::Slice» low high) = optional expression low ++ optional expression high
post_parts (Post-F.FullSlice low high bound) = optional expression low ++ expression high ∷ expression bound ∷ []
post_parts (Post-F.Call xs dots) = map expression xs
post_parts (Post-F.CallReceiveChan t xs dots) = type t ∷ map expression xs

-- the parts of a value of a composite literal
abbrev pub value_parts : ValueLayer → List Node
value_parts (ElementValue-F.Value x) = expression x ∷ []
value_parts (ElementValue-F.«ElementValue::Literal» xs) = element_parts xs

-- the parts of a tree
abbrev pub parts : Node → List Node
parts (expression x) = expression_parts (out-Expr x)
parts (post p) = post_parts (out-Post p)
parts (value v) = value_parts (out-ElementValue v)
parts (type t) = type_parts (out-Typ t)
parts (signature g) = parameter_parts (out-Signature g).parameters ++ optional_result_parts (out-Signature g).result

-- the second tree is the first one, or stands in a part of it
pub data Stands : Node → Node → Type 0 where
  stands_here : {a : Node} → Stands a a
  stands_in : {a b c : Node} → Has (parts a) b → Stands b c → Stands a c
