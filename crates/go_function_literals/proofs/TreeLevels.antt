-- What one level of a tree gives, where each part gives its function literals: their places, and the ranges of their bodies.
use Rattle.std.proofs.Common.{◌≡◌, ◌∙◌, ap}
use Rattle.go_function_literals.specs.Places as places
use Rattle.go_function_literals.specs.Places.{Places, element_places, expr_places, field_places, interface_places, parameter_places, post_places, result_places, signature_places, type_places, value_places}
use Rattle.go_syntax.specs.declared.expression.Element.{Element, Element-F, fold-Element, fold_out-Element, map-Element, out-Element}
use Rattle.go_syntax.specs.declared.expression.ElementValue.{ElementValue, ElementValue-F, fold-ElementValue, fold_out-ElementValue, map-ElementValue, out-ElementValue}
use Rattle.go_syntax.specs.declared.expression.Expr.{Expr, Expr-F, fold_out-Expr, map-Expr, out-Expr}
use Rattle.go_syntax.specs.declared.expression.Post.{Post, Post-F, fold-Post, fold_out-Post, map-Post, out-Post}
use Rattle.go_syntax.specs.declared.types.FieldDecl.{FieldDecl, FieldDecl-F, fold-FieldDecl, fold_out-FieldDecl, map-FieldDecl, out-FieldDecl}
use Rattle.go_syntax.specs.declared.types.FuncResult.{FuncResult, FuncResult-F, fold-FuncResult, fold_out-FuncResult, map-FuncResult, out-FuncResult}
use Rattle.go_syntax.specs.declared.types.InterfaceElem.{InterfaceElem, InterfaceElem-F, fold-InterfaceElem, fold_out-InterfaceElem, map-InterfaceElem, out-InterfaceElem}
use Rattle.go_syntax.specs.declared.types.ParameterDecl.{ParameterDecl, ParameterDecl-F, fold-ParameterDecl, fold_out-ParameterDecl, map-ParameterDecl, out-ParameterDecl}
use Rattle.go_syntax.specs.declared.types.Signature.{Signature, Signature-F, fold-Signature, fold_out-Signature, map-Signature, out-Signature}
use Rattle.go_syntax.specs.declared.types.«Type».{«Type» as Typ, «Type-F» as Typ-F, «fold_out-Type» as fold_out-Typ, «map-Type» as map-Typ, «out-Type» as out-Typ}
use Rattle.go_syntax.specs.Literals as literals
use Rattle.go_syntax.specs.Literals.{Ranges, expr_literals, type_literals}

abbrev pub ExprLayer : Type 0
ExprLayer = Expr-F ElementValue Expr Post FieldDecl FuncResult InterfaceElem Typ Element ParameterDecl Signature

abbrev pub PostLayer : Type 0
PostLayer = Post-F ElementValue Expr Post FieldDecl FuncResult InterfaceElem Typ Element ParameterDecl Signature

abbrev pub ElementLayer : Type 0
ElementLayer = Element-F ElementValue Expr Post FieldDecl FuncResult InterfaceElem Typ Element ParameterDecl Signature

abbrev pub ValueLayer : Type 0
ValueLayer = ElementValue-F ElementValue Expr Post FieldDecl FuncResult InterfaceElem Typ Element ParameterDecl Signature

abbrev pub TypeLayer : Type 0
TypeLayer = Typ-F ElementValue Expr Post FieldDecl FuncResult InterfaceElem Typ Element ParameterDecl Signature

abbrev pub SignatureLayer : Type 0
SignatureLayer = Signature-F ElementValue Expr Post FieldDecl FuncResult InterfaceElem Typ Element ParameterDecl Signature

abbrev pub ResultLayer : Type 0
ResultLayer = FuncResult-F ElementValue Expr Post FieldDecl FuncResult InterfaceElem Typ Element ParameterDecl Signature

abbrev pub ParameterLayer : Type 0
ParameterLayer = ParameterDecl-F ElementValue Expr Post FieldDecl FuncResult InterfaceElem Typ Element ParameterDecl Signature

abbrev pub FieldLayer : Type 0
FieldLayer = FieldDecl-F ElementValue Expr Post FieldDecl FuncResult InterfaceElem Typ Element ParameterDecl Signature

abbrev pub ElemLayer : Type 0
ElemLayer = InterfaceElem-F ElementValue Expr Post FieldDecl FuncResult InterfaceElem Typ Element ParameterDecl Signature

-- the ranges of each kind of tree

abbrev pub post_literals : Post → Ranges
post_literals = fold-Post Ranges Ranges Ranges Ranges Ranges Ranges Ranges Ranges Ranges Ranges literals.value_step literals.expr_step literals.post_step literals.field_step literals.result_step literals.interface_step literals.type_step literals.element_step literals.parameter_step literals.signature_step

abbrev pub element_literals : Element → Ranges
element_literals = fold-Element Ranges Ranges Ranges Ranges Ranges Ranges Ranges Ranges Ranges Ranges literals.value_step literals.expr_step literals.post_step literals.field_step literals.result_step literals.interface_step literals.type_step literals.element_step literals.parameter_step literals.signature_step

abbrev pub value_literals : ElementValue → Ranges
value_literals = fold-ElementValue Ranges Ranges Ranges Ranges Ranges Ranges Ranges Ranges Ranges Ranges literals.value_step literals.expr_step literals.post_step literals.field_step literals.result_step literals.interface_step literals.type_step literals.element_step literals.parameter_step literals.signature_step

abbrev pub signature_literals : Signature → Ranges
signature_literals = fold-Signature Ranges Ranges Ranges Ranges Ranges Ranges Ranges Ranges Ranges Ranges literals.value_step literals.expr_step literals.post_step literals.field_step literals.result_step literals.interface_step literals.type_step literals.element_step literals.parameter_step literals.signature_step

abbrev pub result_literals : FuncResult → Ranges
result_literals = fold-FuncResult Ranges Ranges Ranges Ranges Ranges Ranges Ranges Ranges Ranges Ranges literals.value_step literals.expr_step literals.post_step literals.field_step literals.result_step literals.interface_step literals.type_step literals.element_step literals.parameter_step literals.signature_step

abbrev pub parameter_literals : ParameterDecl → Ranges
parameter_literals = fold-ParameterDecl Ranges Ranges Ranges Ranges Ranges Ranges Ranges Ranges Ranges Ranges literals.value_step literals.expr_step literals.post_step literals.field_step literals.result_step literals.interface_step literals.type_step literals.element_step literals.parameter_step literals.signature_step

abbrev pub field_literals : FieldDecl → Ranges
field_literals = fold-FieldDecl Ranges Ranges Ranges Ranges Ranges Ranges Ranges Ranges Ranges Ranges literals.value_step literals.expr_step literals.post_step literals.field_step literals.result_step literals.interface_step literals.type_step literals.element_step literals.parameter_step literals.signature_step

abbrev pub interface_literals : InterfaceElem → Ranges
interface_literals = fold-InterfaceElem Ranges Ranges Ranges Ranges Ranges Ranges Ranges Ranges Ranges Ranges literals.value_step literals.expr_step literals.post_step literals.field_step literals.result_step literals.interface_step literals.type_step literals.element_step literals.parameter_step literals.signature_step

-- one level

abbrev pub expr_level : ExprLayer → Places
expr_level l = places.expr_step (map-Expr ElementValue Expr Post FieldDecl FuncResult InterfaceElem Typ Element ParameterDecl Signature Places Places Places Places Places Places Places Places Places Places value_places expr_places post_places field_places result_places interface_places type_places element_places parameter_places signature_places l)

abbrev pub expr_ranges : ExprLayer → Ranges
expr_ranges l = literals.expr_step (map-Expr ElementValue Expr Post FieldDecl FuncResult InterfaceElem Typ Element ParameterDecl Signature Ranges Ranges Ranges Ranges Ranges Ranges Ranges Ranges Ranges Ranges value_literals expr_literals post_literals field_literals result_literals interface_literals type_literals element_literals parameter_literals signature_literals l)

abbrev pub post_level : PostLayer → Places
post_level l = places.post_step (map-Post ElementValue Expr Post FieldDecl FuncResult InterfaceElem Typ Element ParameterDecl Signature Places Places Places Places Places Places Places Places Places Places value_places expr_places post_places field_places result_places interface_places type_places element_places parameter_places signature_places l)

abbrev pub post_ranges : PostLayer → Ranges
post_ranges l = literals.post_step (map-Post ElementValue Expr Post FieldDecl FuncResult InterfaceElem Typ Element ParameterDecl Signature Ranges Ranges Ranges Ranges Ranges Ranges Ranges Ranges Ranges Ranges value_literals expr_literals post_literals field_literals result_literals interface_literals type_literals element_literals parameter_literals signature_literals l)

abbrev pub element_level : ElementLayer → Places
element_level l = places.element_step (map-Element ElementValue Expr Post FieldDecl FuncResult InterfaceElem Typ Element ParameterDecl Signature Places Places Places Places Places Places Places Places Places Places value_places expr_places post_places field_places result_places interface_places type_places element_places parameter_places signature_places l)

abbrev pub element_ranges : ElementLayer → Ranges
element_ranges l = literals.element_step (map-Element ElementValue Expr Post FieldDecl FuncResult InterfaceElem Typ Element ParameterDecl Signature Ranges Ranges Ranges Ranges Ranges Ranges Ranges Ranges Ranges Ranges value_literals expr_literals post_literals field_literals result_literals interface_literals type_literals element_literals parameter_literals signature_literals l)

abbrev pub value_level : ValueLayer → Places
value_level l = places.value_step (map-ElementValue ElementValue Expr Post FieldDecl FuncResult InterfaceElem Typ Element ParameterDecl Signature Places Places Places Places Places Places Places Places Places Places value_places expr_places post_places field_places result_places interface_places type_places element_places parameter_places signature_places l)

abbrev pub value_ranges : ValueLayer → Ranges
value_ranges l = literals.value_step (map-ElementValue ElementValue Expr Post FieldDecl FuncResult InterfaceElem Typ Element ParameterDecl Signature Ranges Ranges Ranges Ranges Ranges Ranges Ranges Ranges Ranges Ranges value_literals expr_literals post_literals field_literals result_literals interface_literals type_literals element_literals parameter_literals signature_literals l)

abbrev pub type_level : TypeLayer → Places
type_level l = places.type_step (map-Typ ElementValue Expr Post FieldDecl FuncResult InterfaceElem Typ Element ParameterDecl Signature Places Places Places Places Places Places Places Places Places Places value_places expr_places post_places field_places result_places interface_places type_places element_places parameter_places signature_places l)

abbrev pub type_ranges : TypeLayer → Ranges
type_ranges l = literals.type_step (map-Typ ElementValue Expr Post FieldDecl FuncResult InterfaceElem Typ Element ParameterDecl Signature Ranges Ranges Ranges Ranges Ranges Ranges Ranges Ranges Ranges Ranges value_literals expr_literals post_literals field_literals result_literals interface_literals type_literals element_literals parameter_literals signature_literals l)

abbrev pub signature_level : SignatureLayer → Places
signature_level l = places.signature_step (map-Signature ElementValue Expr Post FieldDecl FuncResult InterfaceElem Typ Element ParameterDecl Signature Places Places Places Places Places Places Places Places Places Places value_places expr_places post_places field_places result_places interface_places type_places element_places parameter_places signature_places l)

abbrev pub signature_ranges : SignatureLayer → Ranges
signature_ranges l = literals.signature_step (map-Signature ElementValue Expr Post FieldDecl FuncResult InterfaceElem Typ Element ParameterDecl Signature Ranges Ranges Ranges Ranges Ranges Ranges Ranges Ranges Ranges Ranges value_literals expr_literals post_literals field_literals result_literals interface_literals type_literals element_literals parameter_literals signature_literals l)

abbrev pub result_level : ResultLayer → Places
result_level l = places.result_step (map-FuncResult ElementValue Expr Post FieldDecl FuncResult InterfaceElem Typ Element ParameterDecl Signature Places Places Places Places Places Places Places Places Places Places value_places expr_places post_places field_places result_places interface_places type_places element_places parameter_places signature_places l)

abbrev pub result_ranges : ResultLayer → Ranges
result_ranges l = literals.result_step (map-FuncResult ElementValue Expr Post FieldDecl FuncResult InterfaceElem Typ Element ParameterDecl Signature Ranges Ranges Ranges Ranges Ranges Ranges Ranges Ranges Ranges Ranges value_literals expr_literals post_literals field_literals result_literals interface_literals type_literals element_literals parameter_literals signature_literals l)

abbrev pub parameter_level : ParameterLayer → Places
parameter_level l = places.parameter_step (map-ParameterDecl ElementValue Expr Post FieldDecl FuncResult InterfaceElem Typ Element ParameterDecl Signature Places Places Places Places Places Places Places Places Places Places value_places expr_places post_places field_places result_places interface_places type_places element_places parameter_places signature_places l)

abbrev pub parameter_ranges : ParameterLayer → Ranges
parameter_ranges l = literals.parameter_step (map-ParameterDecl ElementValue Expr Post FieldDecl FuncResult InterfaceElem Typ Element ParameterDecl Signature Ranges Ranges Ranges Ranges Ranges Ranges Ranges Ranges Ranges Ranges value_literals expr_literals post_literals field_literals result_literals interface_literals type_literals element_literals parameter_literals signature_literals l)

abbrev pub field_level : FieldLayer → Places
field_level l = places.field_step (map-FieldDecl ElementValue Expr Post FieldDecl FuncResult InterfaceElem Typ Element ParameterDecl Signature Places Places Places Places Places Places Places Places Places Places value_places expr_places post_places field_places result_places interface_places type_places element_places parameter_places signature_places l)

abbrev pub field_ranges : FieldLayer → Ranges
field_ranges l = literals.field_step (map-FieldDecl ElementValue Expr Post FieldDecl FuncResult InterfaceElem Typ Element ParameterDecl Signature Ranges Ranges Ranges Ranges Ranges Ranges Ranges Ranges Ranges Ranges value_literals expr_literals post_literals field_literals result_literals interface_literals type_literals element_literals parameter_literals signature_literals l)

abbrev pub interface_level : ElemLayer → Places
interface_level l = places.interface_step (map-InterfaceElem ElementValue Expr Post FieldDecl FuncResult InterfaceElem Typ Element ParameterDecl Signature Places Places Places Places Places Places Places Places Places Places value_places expr_places post_places field_places result_places interface_places type_places element_places parameter_places signature_places l)

abbrev pub interface_ranges : ElemLayer → Ranges
interface_ranges l = literals.interface_step (map-InterfaceElem ElementValue Expr Post FieldDecl FuncResult InterfaceElem Typ Element ParameterDecl Signature Ranges Ranges Ranges Ranges Ranges Ranges Ranges Ranges Ranges Ranges value_literals expr_literals post_literals field_literals result_literals interface_literals type_literals element_literals parameter_literals signature_literals l)

-- what a tree gives is what its level gives

pub expr_placed : (x : Expr) (l : ExprLayer) → out-Expr x ≡ l → expr_places x ≡ expr_level l
expr_placed x l e = fold_out-Expr Places Places Places Places Places Places Places Places Places Places places.value_step places.expr_step places.post_step places.field_step places.result_step places.interface_step places.type_step places.element_step places.parameter_step places.signature_step x ∙ ap expr_level e

pub expr_ranged : (x : Expr) (l : ExprLayer) → out-Expr x ≡ l → expr_literals x ≡ expr_ranges l
expr_ranged x l e = fold_out-Expr Ranges Ranges Ranges Ranges Ranges Ranges Ranges Ranges Ranges Ranges literals.value_step literals.expr_step literals.post_step literals.field_step literals.result_step literals.interface_step literals.type_step literals.element_step literals.parameter_step literals.signature_step x ∙ ap expr_ranges e

pub post_placed : (x : Post) (l : PostLayer) → out-Post x ≡ l → post_places x ≡ post_level l
post_placed x l e = fold_out-Post Places Places Places Places Places Places Places Places Places Places places.value_step places.expr_step places.post_step places.field_step places.result_step places.interface_step places.type_step places.element_step places.parameter_step places.signature_step x ∙ ap post_level e

pub post_ranged : (x : Post) (l : PostLayer) → out-Post x ≡ l → post_literals x ≡ post_ranges l
post_ranged x l e = fold_out-Post Ranges Ranges Ranges Ranges Ranges Ranges Ranges Ranges Ranges Ranges literals.value_step literals.expr_step literals.post_step literals.field_step literals.result_step literals.interface_step literals.type_step literals.element_step literals.parameter_step literals.signature_step x ∙ ap post_ranges e

pub element_placed : (x : Element) (l : ElementLayer) → out-Element x ≡ l → element_places x ≡ element_level l
element_placed x l e = fold_out-Element Places Places Places Places Places Places Places Places Places Places places.value_step places.expr_step places.post_step places.field_step places.result_step places.interface_step places.type_step places.element_step places.parameter_step places.signature_step x ∙ ap element_level e

pub element_ranged : (x : Element) (l : ElementLayer) → out-Element x ≡ l → element_literals x ≡ element_ranges l
element_ranged x l e = fold_out-Element Ranges Ranges Ranges Ranges Ranges Ranges Ranges Ranges Ranges Ranges literals.value_step literals.expr_step literals.post_step literals.field_step literals.result_step literals.interface_step literals.type_step literals.element_step literals.parameter_step literals.signature_step x ∙ ap element_ranges e

pub value_placed : (x : ElementValue) (l : ValueLayer) → out-ElementValue x ≡ l → value_places x ≡ value_level l
value_placed x l e = fold_out-ElementValue Places Places Places Places Places Places Places Places Places Places places.value_step places.expr_step places.post_step places.field_step places.result_step places.interface_step places.type_step places.element_step places.parameter_step places.signature_step x ∙ ap value_level e

pub value_ranged : (x : ElementValue) (l : ValueLayer) → out-ElementValue x ≡ l → value_literals x ≡ value_ranges l
value_ranged x l e = fold_out-ElementValue Ranges Ranges Ranges Ranges Ranges Ranges Ranges Ranges Ranges Ranges literals.value_step literals.expr_step literals.post_step literals.field_step literals.result_step literals.interface_step literals.type_step literals.element_step literals.parameter_step literals.signature_step x ∙ ap value_ranges e

pub type_placed : (x : Typ) (l : TypeLayer) → out-Typ x ≡ l → type_places x ≡ type_level l
type_placed x l e = fold_out-Typ Places Places Places Places Places Places Places Places Places Places places.value_step places.expr_step places.post_step places.field_step places.result_step places.interface_step places.type_step places.element_step places.parameter_step places.signature_step x ∙ ap type_level e

pub type_ranged : (x : Typ) (l : TypeLayer) → out-Typ x ≡ l → type_literals x ≡ type_ranges l
type_ranged x l e = fold_out-Typ Ranges Ranges Ranges Ranges Ranges Ranges Ranges Ranges Ranges Ranges literals.value_step literals.expr_step literals.post_step literals.field_step literals.result_step literals.interface_step literals.type_step literals.element_step literals.parameter_step literals.signature_step x ∙ ap type_ranges e

pub signature_placed : (x : Signature) (l : SignatureLayer) → out-Signature x ≡ l → signature_places x ≡ signature_level l
signature_placed x l e = fold_out-Signature Places Places Places Places Places Places Places Places Places Places places.value_step places.expr_step places.post_step places.field_step places.result_step places.interface_step places.type_step places.element_step places.parameter_step places.signature_step x ∙ ap signature_level e

pub signature_ranged : (x : Signature) (l : SignatureLayer) → out-Signature x ≡ l → signature_literals x ≡ signature_ranges l
signature_ranged x l e = fold_out-Signature Ranges Ranges Ranges Ranges Ranges Ranges Ranges Ranges Ranges Ranges literals.value_step literals.expr_step literals.post_step literals.field_step literals.result_step literals.interface_step literals.type_step literals.element_step literals.parameter_step literals.signature_step x ∙ ap signature_ranges e

pub result_placed : (x : FuncResult) (l : ResultLayer) → out-FuncResult x ≡ l → result_places x ≡ result_level l
result_placed x l e = fold_out-FuncResult Places Places Places Places Places Places Places Places Places Places places.value_step places.expr_step places.post_step places.field_step places.result_step places.interface_step places.type_step places.element_step places.parameter_step places.signature_step x ∙ ap result_level e

pub result_ranged : (x : FuncResult) (l : ResultLayer) → out-FuncResult x ≡ l → result_literals x ≡ result_ranges l
result_ranged x l e = fold_out-FuncResult Ranges Ranges Ranges Ranges Ranges Ranges Ranges Ranges Ranges Ranges literals.value_step literals.expr_step literals.post_step literals.field_step literals.result_step literals.interface_step literals.type_step literals.element_step literals.parameter_step literals.signature_step x ∙ ap result_ranges e

pub parameter_placed : (x : ParameterDecl) (l : ParameterLayer) → out-ParameterDecl x ≡ l → parameter_places x ≡ parameter_level l
parameter_placed x l e = fold_out-ParameterDecl Places Places Places Places Places Places Places Places Places Places places.value_step places.expr_step places.post_step places.field_step places.result_step places.interface_step places.type_step places.element_step places.parameter_step places.signature_step x ∙ ap parameter_level e

pub parameter_ranged : (x : ParameterDecl) (l : ParameterLayer) → out-ParameterDecl x ≡ l → parameter_literals x ≡ parameter_ranges l
parameter_ranged x l e = fold_out-ParameterDecl Ranges Ranges Ranges Ranges Ranges Ranges Ranges Ranges Ranges Ranges literals.value_step literals.expr_step literals.post_step literals.field_step literals.result_step literals.interface_step literals.type_step literals.element_step literals.parameter_step literals.signature_step x ∙ ap parameter_ranges e

pub field_placed : (x : FieldDecl) (l : FieldLayer) → out-FieldDecl x ≡ l → field_places x ≡ field_level l
field_placed x l e = fold_out-FieldDecl Places Places Places Places Places Places Places Places Places Places places.value_step places.expr_step places.post_step places.field_step places.result_step places.interface_step places.type_step places.element_step places.parameter_step places.signature_step x ∙ ap field_level e

pub field_ranged : (x : FieldDecl) (l : FieldLayer) → out-FieldDecl x ≡ l → field_literals x ≡ field_ranges l
field_ranged x l e = fold_out-FieldDecl Ranges Ranges Ranges Ranges Ranges Ranges Ranges Ranges Ranges Ranges literals.value_step literals.expr_step literals.post_step literals.field_step literals.result_step literals.interface_step literals.type_step literals.element_step literals.parameter_step literals.signature_step x ∙ ap field_ranges e

pub interface_placed : (x : InterfaceElem) (l : ElemLayer) → out-InterfaceElem x ≡ l → interface_places x ≡ interface_level l
interface_placed x l e = fold_out-InterfaceElem Places Places Places Places Places Places Places Places Places Places places.value_step places.expr_step places.post_step places.field_step places.result_step places.interface_step places.type_step places.element_step places.parameter_step places.signature_step x ∙ ap interface_level e

pub interface_ranged : (x : InterfaceElem) (l : ElemLayer) → out-InterfaceElem x ≡ l → interface_literals x ≡ interface_ranges l
interface_ranged x l e = fold_out-InterfaceElem Ranges Ranges Ranges Ranges Ranges Ranges Ranges Ranges Ranges Ranges literals.value_step literals.expr_step literals.post_step literals.field_step literals.result_step literals.interface_step literals.type_step literals.element_step literals.parameter_step literals.signature_step x ∙ ap interface_ranges e
