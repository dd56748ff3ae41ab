-- The references of a declaration: the names by which it refers to others outside of bodies, in the order in which they
-- stand, each as often as it stands, and how each one stands there.
-- Public source: Go specification, "Declarations and scope", "Operands", "Qualified identifiers". The selection is own.
--
-- Such a name is an operand, or the first name of a type's name: the qualifier where there is one, else the name itself. A
-- name that is declared is none, nor is the name of a field, a method or a parameter, nor one behind a period. A key of
-- a composite literal that is a name counts as an operand, also where it is a field's. In the body of a function or of a
-- function literal nothing counts, while the signature does.
--
-- A step says what one level of a tree gives at a position, where what each part gives stands in the part's place.
use Rattle.std.specs.Prelude.{Bool, true, false, not, List, [], ◌∷◌, ◌++◌, map, filter, Option, Some, None}
use Rattle.go_syntax.specs.go_base.declared.operator.PrefixOperator.{PrefixOperator}
use Rattle.go_syntax.specs.go_base.declared.operator.PrefixOperator.TheVariants as prefix
use Rattle.go_syntax.specs.declared.declaration.ConstSpec.{ConstSpec}
use Rattle.go_syntax.specs.declared.declaration.Decl.{Decl}
use Rattle.go_syntax.specs.declared.declaration.Decl.TheVariants as decl
use Rattle.go_syntax.specs.declared.declaration.Func.{Func}
use Rattle.go_syntax.specs.declared.declaration.TypeSpec.{TypeSpec}
use Rattle.go_syntax.specs.declared.declaration.VarSpec.{VarSpec}
use Rattle.go_syntax.specs.declared.expression.Element.{Element, Element-F, fold-Element}
use Rattle.go_syntax.specs.declared.expression.ElementValue.{ElementValue, ElementValue-F, fold-ElementValue}
use Rattle.go_syntax.specs.declared.expression.Expr.{Expr, Expr-F, fold-Expr}
use Rattle.go_syntax.specs.declared.expression.Post.{Post, Post-F, fold-Post}
use Rattle.go_syntax.specs.declared.name.Name.{Name}
use Rattle.go_syntax.specs.declared.name.QualifiedName.{QualifiedName}
use Rattle.go_references.specs.declared.references.Position.{Position}
use Rattle.go_references.specs.declared.references.Reference.{Reference}
use Rattle.go_syntax.specs.declared.types.FieldDecl.{FieldDecl, FieldDecl-F, fold-FieldDecl}
use Rattle.go_syntax.specs.declared.types.FuncResult.{FuncResult, FuncResult-F, fold-FuncResult}
use Rattle.go_syntax.specs.declared.types.InterfaceElem.{InterfaceElem, InterfaceElem-F, fold-InterfaceElem}
use Rattle.go_syntax.specs.declared.types.ParameterDecl.{ParameterDecl, ParameterDecl-F, fold-ParameterDecl}
use Rattle.go_syntax.specs.declared.types.Signature.{Signature, Signature-F, fold-Signature}
use Rattle.go_syntax.specs.declared.types.«Type».{«Type» as Typ, «Type-F» as Type-F, «fold-Type» as fold-Type}

-- Positions

-- where a declaration's own type and values stand
abbrev pub outermost : Position
outermost = record { in_length = false; by_value = true }

-- the same inside the length of an array
abbrev pub inside_length : Position → Position
inside_length at = record { in_length = true; by_value = at.by_value }

-- the same behind a pointer, a slice, a map, a channel or a signature
abbrev pub behind : Position → Position
behind at = record { in_length = at.in_length; by_value = false }

abbrev pub behind_if : Bool → Position → Position
behind_if true at = behind at
behind_if false at = at

-- where the operand of a prefix operator stands: that of `*` may be the base of a pointer type
abbrev pub behind_operator : PrefixOperator → Position → Position
behind_operator prefix.Dereference at = behind at
behind_operator _ at = at

-- References at a position

abbrev pub References : Type 0
References = Position → List Reference

abbrev pub reference : Name → Option Name → Bool → Position → Reference
reference name selected is_key at = record { name = name; selected = selected; is_key = is_key; in_length = at.in_length; by_value = at.by_value }

abbrev pub none : References
none at = []

-- the lists one after another
abbrev pub joined : List References → References
joined [] at = []
joined (x ∷ xs) at = x at ++ joined xs at

abbrev pub optional : Option References → References
optional None at = []
optional (Some x) at = x at

-- the first name of a type's name, of its qualifier and its name
abbrev pub first_name : Option Name → Name → References
first_name None name at = reference name None false at ∷ []
first_name (Some qualifier) name at = reference qualifier (Some name) false at ∷ []

abbrev pub type_name : QualifiedName → References
type_name q = first_name q.qualifier q.name

-- What an expression gives, and the name that it is where it is one alone
pub record ExprRefs : Type 0 where
  pub bare : Option Name
  pub refs : References

-- What a post gives, and the name that it selects where it is a selector
pub record PostRefs : Type 0 where
  pub selected : Option Name
  pub refs : References

abbrev pub composed : References → ExprRefs
composed refs = record { bare = None; refs = refs }

abbrev pub post : References → PostRefs
post refs = record { selected = None; refs = refs }

abbrev pub expr_refs_of : ExprRefs → References
expr_refs_of x = x.refs

abbrev pub post_refs_of : PostRefs → References
post_refs_of p = p.refs

abbrev pub all_exprs : List ExprRefs → References
all_exprs xs = joined (map expr_refs_of xs)

abbrev pub optional_operand : Option ExprRefs → References
optional_operand None at = []
optional_operand (Some x) at = x.refs at

-- the name that the first post selects
abbrev pub first_selected : List PostRefs → Option Name
first_selected [] = None
first_selected (p ∷ ps) = p.selected

-- an operand before posts: a name before a selector is qualified
abbrev pub before_posts : Option Name → Option Name → References → References
before_posts (Some name) (Some selected) refs at = reference name (Some selected) false at ∷ []
before_posts (Some name) None refs at = refs at
before_posts None selected refs at = refs at

-- a key of a composite literal
abbrev pub key_of : Option Name → References → References
key_of (Some name) refs at = reference name None true at ∷ []
key_of None refs at = refs at

abbrev pub optional_key : Option ExprRefs → References
optional_key None at = []
optional_key (Some k) at = key_of k.bare k.refs at

-- The steps

abbrev pub expr_step : Expr-F ExprRefs ExprRefs PostRefs References References References References References References References → ExprRefs
expr_step (Expr-F.Or first others) = composed (λ at. first.refs at ++ all_exprs others at)
expr_step (Expr-F.And first others) = composed (λ at. first.refs at ++ all_exprs others at)
expr_step (Expr-F.Compare first operators others) = composed (λ at. first.refs at ++ all_exprs others at)
expr_step (Expr-F.Sum first operators others) = composed (λ at. first.refs at ++ all_exprs others at)
expr_step (Expr-F.Product first operators others) = composed (λ at. first.refs at ++ all_exprs others at)
expr_step (Expr-F.Prefix operator operand) = composed (λ at. operand.refs (behind_operator operator at))
expr_step (Expr-F.Primary operand posts) = composed (λ at. before_posts operand.bare (first_selected posts) operand.refs at ++ joined (map post_refs_of posts) at)
expr_step (Expr-F.«Expr::Literal» literal) = composed none
expr_step (Expr-F.Name name) = record { bare = Some name; refs = λ at. reference name None false at ∷ [] }
expr_step (Expr-F.FuncLit signature body) = composed signature
expr_step (Expr-F.Composite type_ elements) = composed (λ at. type_ at ++ joined elements at)
expr_step (Expr-F.CompositeArray type_ elements) = composed (λ at. type_ at ++ joined elements at)
expr_step (Expr-F.«Expr::Type» type_) = composed type_
expr_step (Expr-F.«Expr::Paren» inner) = composed inner.refs
expr_step (Expr-F.ParenReceiveChan type_) = composed (λ at. type_ (behind at))

abbrev pub post_step : Post-F ExprRefs ExprRefs PostRefs References References References References References References References → PostRefs
post_step (Post-F.Selector name) = record { selected = Some name; refs = none }
post_step (Post-F.TypeAssertion type_) = post type_
post_step (Post-F.Index index) = post index.refs
post_step (Post-F.«Post::Slice» low high) = post (λ at. optional_operand low at ++ optional_operand high at)
post_step (Post-F.FullSlice low high bound) = post (λ at. optional_operand low at ++ (high.refs at ++ bound.refs at))
post_step (Post-F.Call arguments spread) = post (all_exprs arguments)
post_step (Post-F.CallReceiveChan type_ arguments spread) = post (λ at. type_ (behind at) ++ all_exprs arguments at)

abbrev pub element_step : Element-F ExprRefs ExprRefs PostRefs References References References References References References References → References
element_step e at = optional_key e.key at ++ e.value.refs at

abbrev pub value_step : ElementValue-F ExprRefs ExprRefs PostRefs References References References References References References References → ExprRefs
value_step (ElementValue-F.Value expr) = expr
value_step (ElementValue-F.«ElementValue::Literal» elements) = composed (joined elements)

abbrev pub type_step : Type-F ExprRefs ExprRefs PostRefs References References References References References References References → References
type_step (Type-F.«Type::Named» name) at = type_name name at
type_step (Type-F.«Type::Paren» inner) at = inner at
type_step (Type-F.Pointer base) at = base (behind at)
type_step (Type-F.«Type::Slice» item) at = item (behind at)
type_step (Type-F.Array length item) at = length.refs (inside_length at) ++ item at
type_step (Type-F.Map key item) at = key (behind at) ++ item (behind at)
type_step (Type-F.Chan item) at = item (behind at)
type_step (Type-F.SendChan item) at = item (behind at)
type_step (Type-F.ReceiveChan item) at = item (behind at)
type_step (Type-F.Func signature) at = signature at
type_step (Type-F.Struct fields) at = joined fields at
type_step (Type-F.Interface elements) at = joined elements at

abbrev pub signature_step : Signature-F ExprRefs ExprRefs PostRefs References References References References References References References → References
signature_step s at = joined s.parameters (behind at) ++ optional s.result (behind at)

abbrev pub result_step : FuncResult-F ExprRefs ExprRefs PostRefs References References References References References References References → References
result_step (FuncResult-F.Parameters parameters) at = joined parameters at
result_step (FuncResult-F.«FuncResult::Type» type_) at = type_ at

abbrev pub parameter_step : ParameterDecl-F ExprRefs ExprRefs PostRefs References References References References References References References → References
parameter_step p at = p.type_ at

abbrev pub field_step : FieldDecl-F ExprRefs ExprRefs PostRefs References References References References References References References → References
field_step (FieldDecl-F.«FieldDecl::Named» names type_ tag) at = type_ at
field_step (FieldDecl-F.«FieldDecl::Embedded» pointer name tag) at = type_name name (behind_if pointer at)

abbrev pub interface_step : InterfaceElem-F ExprRefs ExprRefs PostRefs References References References References References References References → References
interface_step (InterfaceElem-F.Method name signature) at = signature at
interface_step (InterfaceElem-F.«InterfaceElem::Embedded» name) at = type_name name at

-- What a tree gives: at each level its step, for all types that stand in one another

abbrev pub expr_refs : Expr → ExprRefs
expr_refs = fold-Expr ExprRefs ExprRefs PostRefs References References References References References References References value_step expr_step post_step field_step result_step interface_step type_step element_step parameter_step signature_step

abbrev pub post_refs : Post → PostRefs
post_refs = fold-Post ExprRefs ExprRefs PostRefs References References References References References References References value_step expr_step post_step field_step result_step interface_step type_step element_step parameter_step signature_step

abbrev pub element_refs : Element → References
element_refs = fold-Element ExprRefs ExprRefs PostRefs References References References References References References References value_step expr_step post_step field_step result_step interface_step type_step element_step parameter_step signature_step

abbrev pub value_refs : ElementValue → ExprRefs
value_refs = fold-ElementValue ExprRefs ExprRefs PostRefs References References References References References References References value_step expr_step post_step field_step result_step interface_step type_step element_step parameter_step signature_step

abbrev pub type_refs : Typ → References
type_refs = fold-Type ExprRefs ExprRefs PostRefs References References References References References References References value_step expr_step post_step field_step result_step interface_step type_step element_step parameter_step signature_step

abbrev pub signature_refs : Signature → References
signature_refs = fold-Signature ExprRefs ExprRefs PostRefs References References References References References References References value_step expr_step post_step field_step result_step interface_step type_step element_step parameter_step signature_step

abbrev pub result_refs : FuncResult → References
result_refs = fold-FuncResult ExprRefs ExprRefs PostRefs References References References References References References References value_step expr_step post_step field_step result_step interface_step type_step element_step parameter_step signature_step

abbrev pub parameter_refs : ParameterDecl → References
parameter_refs = fold-ParameterDecl ExprRefs ExprRefs PostRefs References References References References References References References value_step expr_step post_step field_step result_step interface_step type_step element_step parameter_step signature_step

abbrev pub field_refs : FieldDecl → References
field_refs = fold-FieldDecl ExprRefs ExprRefs PostRefs References References References References References References References value_step expr_step post_step field_step result_step interface_step type_step element_step parameter_step signature_step

abbrev pub interface_refs : InterfaceElem → References
interface_refs = fold-InterfaceElem ExprRefs ExprRefs PostRefs References References References References References References References value_step expr_step post_step field_step result_step interface_step type_step element_step parameter_step signature_step

-- Declarations

abbrev pub optional_type : Option Typ → References
optional_type None at = []
optional_type (Some t) at = type_refs t at

abbrev pub optional_parameter : Option ParameterDecl → References
optional_parameter None at = []
optional_parameter (Some p) at = parameter_refs p at

abbrev pub optional_expr : Option Expr → References
optional_expr None at = []
optional_expr (Some x) at = (expr_refs x).refs at

abbrev pub exprs_refs : List Expr → References
exprs_refs xs = all_exprs (map expr_refs xs)

-- the references of constants, of variables, and of a type's declaration
abbrev pub const_references : ConstSpec → List Reference
const_references c = optional_type c.type_ outermost ++ exprs_refs c.values outermost

abbrev pub var_references : VarSpec → List Reference
var_references v = optional_type v.type_ outermost ++ exprs_refs v.values outermost

abbrev pub type_references : TypeSpec → List Reference
type_references t = type_refs t.type_ outermost

-- of a function: the receiver's type and the signature
abbrev pub func_references : Func → List Reference
func_references f = optional_parameter f.receiver (behind outermost) ++ signature_refs f.signature outermost

abbrev pub all_specs : List (List Reference) → List Reference
all_specs [] = []
all_specs (x ∷ xs) = x ++ all_specs xs

-- the references of a declaration: those of its specs, one after another
abbrev pub references_of : Decl → List Reference
references_of (decl.ConstGroup specs) = all_specs (map const_references specs)
references_of (decl.VarGroup specs) = all_specs (map var_references specs)
references_of (decl.TypeGroup specs) = all_specs (map type_references specs)
references_of (decl.FuncDecl func) = func_references func

-- What is asked of references

abbrev pub name_of : Reference → Name
name_of r = r.name

-- all names
abbrev pub names : List Reference → List Name
names = map name_of

abbrev pub is_selected : Option Name → Bool
is_selected None = false
is_selected (Some name) = true

-- those that stand as a name and one that it selects, as in `p.X`
abbrev pub qualified : List Reference → List Reference
qualified = filter (λ r. is_selected r.selected)

-- without the names that are keys of composite literals
abbrev pub without_keys : List Reference → List Reference
without_keys = filter (λ r. not r.is_key)

-- inside the length of an array
abbrev pub in_lengths : List Reference → List Reference
in_lengths = filter (λ r. r.in_length)

-- by value: behind no pointer, slice, map, channel or signature
abbrev pub by_value : List Reference → List Reference
by_value = filter (λ r. r.by_value)

-- the names of a declaration's references
abbrev pub refs_of : Decl → List Name
refs_of d = names (references_of d)
