-- The function literals of an expression or a type of a given height: for each one the range of its body, and the height that the
-- body may have, in the order in which they stand. What stands in such a body is of another tree and gives nothing here.
-- Public source: Go specification, "Function literals". Own: the height of the grammar, of which the Go specification has none.
--
-- A step says what one level of a tree gives at a height, where what each part gives stands in the part's place.
use Rattle.std.specs.Prelude.{ℕ, zero, suc, List, [], ◌∷◌, ◌++◌, map, Option, Some, None}
use Rattle.go_function_literals.specs.declared.place.LiteralPlace.{LiteralPlace}
use Rattle.go_syntax.specs.declared.body.BodyRange.{BodyRange}
use Rattle.go_syntax.specs.declared.declaration.ConstSpec.{ConstSpec}
use Rattle.go_syntax.specs.declared.declaration.VarSpec.{VarSpec}
use Rattle.go_syntax.specs.declared.expression.Element.{Element, Element-F, fold-Element}
use Rattle.go_syntax.specs.declared.expression.ElementValue.{ElementValue, ElementValue-F, fold-ElementValue}
use Rattle.go_syntax.specs.declared.expression.Expr.{Expr, Expr-F, fold-Expr}
use Rattle.go_syntax.specs.declared.expression.Post.{Post, Post-F, fold-Post}
use Rattle.go_syntax.specs.declared.types.FieldDecl.{FieldDecl, FieldDecl-F, fold-FieldDecl}
use Rattle.go_syntax.specs.declared.types.FuncResult.{FuncResult, FuncResult-F, fold-FuncResult}
use Rattle.go_syntax.specs.declared.types.InterfaceElem.{InterfaceElem, InterfaceElem-F, fold-InterfaceElem}
use Rattle.go_syntax.specs.declared.types.ParameterDecl.{ParameterDecl, ParameterDecl-F, fold-ParameterDecl}
use Rattle.go_syntax.specs.declared.types.Signature.{Signature, Signature-F, fold-Signature}
use Rattle.go_syntax.specs.declared.types.«Type».{«Type» as Typ, «Type-F» as Type-F, «fold-Type» as fold-Type}

-- the height of the parts of a tree of this height
abbrev pub below : ℕ → ℕ
below zero = 0
below (suc h) = h

-- what a tree gives at its height
abbrev pub Places : Type 0
Places = ℕ → List LiteralPlace

abbrev pub literal : BodyRange → Places
literal body h = record { body = body; height = h } ∷ []

-- one after another
abbrev pub joined : List Places → Places
joined [] h = []
joined (x ∷ xs) h = x h ++ joined xs h

abbrev pub optional : Option Places → Places
optional None h = []
optional (Some x) h = x h

-- The steps

abbrev pub expr_step : Expr-F Places Places Places Places Places Places Places Places Places Places → Places
expr_step (Expr-F.Or first others) h = first h ++ joined others h
expr_step (Expr-F.And first others) h = first h ++ joined others h
expr_step (Expr-F.Compare first operators others) h = first h ++ joined others h
expr_step (Expr-F.Sum first operators others) h = first h ++ joined others h
expr_step (Expr-F.Product first operators others) h = first h ++ joined others h
expr_step (Expr-F.Prefix operator operand) h = operand (below h)
expr_step (Expr-F.Primary operand posts) h = operand h ++ joined posts h
expr_step (Expr-F.«Expr::Literal» literal) h = []
expr_step (Expr-F.Name name) h = []
expr_step (Expr-F.FuncLit signature body) h = signature (below h) ++ literal body (below h)
expr_step (Expr-F.Composite type_ elements) h = type_ (below h) ++ joined elements (below (below h))
expr_step (Expr-F.CompositeArray type_ elements) h = type_ (below h) ++ joined elements (below (below h))
expr_step (Expr-F.«Expr::Type» type_) h = type_ h
expr_step (Expr-F.«Expr::Paren» inner) h = inner (below h)
expr_step (Expr-F.ParenReceiveChan type_) h = type_ (below h)

abbrev pub post_step : Post-F Places Places Places Places Places Places Places Places Places Places → Places
post_step (Post-F.Selector name) h = []
post_step (Post-F.TypeAssertion type_) h = type_ (below h)
post_step (Post-F.Index index) h = index (below h)
post_step (Post-F.«Post::Slice» low high) h = optional low (below h) ++ optional high (below h)
post_step (Post-F.FullSlice low high bound) h = optional low (below h) ++ (high (below h) ++ bound (below h))
post_step (Post-F.Call arguments spread) h = joined arguments (below h)
post_step (Post-F.CallReceiveChan type_ arguments spread) h = type_ (below h) ++ joined arguments (below h)

abbrev pub element_step : Element-F Places Places Places Places Places Places Places Places Places Places → Places
element_step e h = optional e.key h ++ e.value h

abbrev pub value_step : ElementValue-F Places Places Places Places Places Places Places Places Places Places → Places
value_step (ElementValue-F.Value expr) h = expr h
value_step (ElementValue-F.«ElementValue::Literal» elements) h = joined elements (below h)

abbrev pub type_step : Type-F Places Places Places Places Places Places Places Places Places Places → Places
type_step (Type-F.«Type::Named» name) h = []
type_step (Type-F.«Type::Paren» inner) h = inner (below h)
type_step (Type-F.Pointer base) h = base (below h)
type_step (Type-F.«Type::Slice» item) h = item (below h)
type_step (Type-F.Array length item) h = length (below h) ++ item (below h)
type_step (Type-F.Map key item) h = key (below h) ++ item (below h)
type_step (Type-F.Chan item) h = item (below h)
type_step (Type-F.SendChan item) h = item (below h)
type_step (Type-F.ReceiveChan item) h = item (below h)
type_step (Type-F.Func signature) h = signature (below h)
type_step (Type-F.Struct fields) h = joined fields (below h)
type_step (Type-F.Interface elements) h = joined elements (below h)

abbrev pub signature_step : Signature-F Places Places Places Places Places Places Places Places Places Places → Places
signature_step s h = joined s.parameters (below h) ++ optional s.result (below h)

abbrev pub result_step : FuncResult-F Places Places Places Places Places Places Places Places Places Places → Places
result_step (FuncResult-F.Parameters parameters) h = joined parameters h
result_step (FuncResult-F.«FuncResult::Type» type_) h = type_ h

abbrev pub parameter_step : ParameterDecl-F Places Places Places Places Places Places Places Places Places Places → Places
parameter_step p h = p.type_ h

abbrev pub field_step : FieldDecl-F Places Places Places Places Places Places Places Places Places Places → Places
field_step (FieldDecl-F.«FieldDecl::Named» names type_ tag) h = type_ h
field_step (FieldDecl-F.«FieldDecl::Embedded» pointer name tag) h = []

abbrev pub interface_step : InterfaceElem-F Places Places Places Places Places Places Places Places Places Places → Places
interface_step (InterfaceElem-F.Method name signature) h = signature h
interface_step (InterfaceElem-F.«InterfaceElem::Embedded» name) h = []

-- What a tree gives: at each level its step, for all types that stand in one another

abbrev pub expr_places : Expr → Places
expr_places = fold-Expr Places Places Places Places Places Places Places Places Places Places value_step expr_step post_step field_step result_step interface_step type_step element_step parameter_step signature_step

abbrev pub post_places : Post → Places
post_places = fold-Post Places Places Places Places Places Places Places Places Places Places value_step expr_step post_step field_step result_step interface_step type_step element_step parameter_step signature_step

abbrev pub element_places : Element → Places
element_places = fold-Element Places Places Places Places Places Places Places Places Places Places value_step expr_step post_step field_step result_step interface_step type_step element_step parameter_step signature_step

abbrev pub value_places : ElementValue → Places
value_places = fold-ElementValue Places Places Places Places Places Places Places Places Places Places value_step expr_step post_step field_step result_step interface_step type_step element_step parameter_step signature_step

abbrev pub type_places : Typ → Places
type_places = fold-Type Places Places Places Places Places Places Places Places Places Places value_step expr_step post_step field_step result_step interface_step type_step element_step parameter_step signature_step

abbrev pub signature_places : Signature → Places
signature_places = fold-Signature Places Places Places Places Places Places Places Places Places Places value_step expr_step post_step field_step result_step interface_step type_step element_step parameter_step signature_step

abbrev pub result_places : FuncResult → Places
result_places = fold-FuncResult Places Places Places Places Places Places Places Places Places Places value_step expr_step post_step field_step result_step interface_step type_step element_step parameter_step signature_step

abbrev pub parameter_places : ParameterDecl → Places
parameter_places = fold-ParameterDecl Places Places Places Places Places Places Places Places Places Places value_step expr_step post_step field_step result_step interface_step type_step element_step parameter_step signature_step

abbrev pub field_places : FieldDecl → Places
field_places = fold-FieldDecl Places Places Places Places Places Places Places Places Places Places value_step expr_step post_step field_step result_step interface_step type_step element_step parameter_step signature_step

abbrev pub interface_places : InterfaceElem → Places
interface_places = fold-InterfaceElem Places Places Places Places Places Places Places Places Places Places value_step expr_step post_step field_step result_step interface_step type_step element_step parameter_step signature_step

abbrev pub exprs_places : List Expr → Places
exprs_places xs = joined (map expr_places xs)

abbrev pub optional_expr : Option Expr → Places
optional_expr None h = []
optional_expr (Some x) h = expr_places x h

abbrev pub optional_type : Option Typ → Places
optional_type None h = []
optional_type (Some t) h = type_places t h

abbrev pub types_places : List Typ → Places
types_places ts = joined (map type_places ts)

-- of a group of constants or variables

abbrev pub const_places : ConstSpec → Places
const_places c h = optional_type c.type_ h ++ exprs_places c.values h

abbrev pub var_places : VarSpec → Places
var_places v h = optional_type v.type_ h ++ exprs_places v.values h
