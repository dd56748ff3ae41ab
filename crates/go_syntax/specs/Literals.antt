-- The function literals of a tree: the ranges of their bodies, in the order in which they stand. What stands in
-- such a body is of another tree and gives nothing here.
-- Public source: Go specification, "Function literals".
--
-- A step says what one level of a tree gives, where what each part gives stands in the part's place.
use Rattle.std.specs.Prelude.{List, [], ◌∷◌, ◌++◌, map, Option, Some, None}
use Rattle.go_syntax.specs.declared.body.BodyRange.{BodyRange}
use Rattle.go_syntax.specs.declared.declaration.ConstSpec.{ConstSpec}
use Rattle.go_syntax.specs.declared.declaration.VarSpec.{VarSpec}
use Rattle.go_syntax.specs.declared.expression.Element.{Element-F}
use Rattle.go_syntax.specs.declared.expression.ElementValue.{ElementValue-F}
use Rattle.go_syntax.specs.declared.expression.Expr.{Expr, Expr-F, fold-Expr}
use Rattle.go_syntax.specs.declared.expression.Post.{Post-F}
use Rattle.go_syntax.specs.declared.statement.Case.{Case-F}
use Rattle.go_syntax.specs.declared.statement.SelectCase.{SelectCase-F}
use Rattle.go_syntax.specs.declared.statement.Stmt.{Stmt, Stmt-F, fold-Stmt}
use Rattle.go_syntax.specs.declared.statement.StmtKind.{StmtKind-F}
use Rattle.go_syntax.specs.declared.statement.TypeCase.{TypeCase-F}
use Rattle.go_syntax.specs.declared.types.FieldDecl.{FieldDecl-F}
use Rattle.go_syntax.specs.declared.types.FuncResult.{FuncResult-F}
use Rattle.go_syntax.specs.declared.types.InterfaceElem.{InterfaceElem-F}
use Rattle.go_syntax.specs.declared.types.ParameterDecl.{ParameterDecl-F}
use Rattle.go_syntax.specs.declared.types.Signature.{Signature-F}
use Rattle.go_syntax.specs.declared.types.«Type».{«Type» as Typ, «Type-F» as Type-F, «fold-Type» as fold-Type}

abbrev pub Ranges : Type 0
Ranges = List BodyRange

-- the lists one after another
abbrev pub joined : List Ranges → Ranges
joined [] = []
joined (x ∷ xs) = x ++ joined xs

abbrev pub optional : Option Ranges → Ranges
optional None = []
optional (Some x) = x

-- The steps of expressions and types

abbrev pub expr_step : Expr-F Ranges Ranges Ranges Ranges Ranges Ranges Ranges Ranges Ranges Ranges → Ranges
expr_step (Expr-F.Or first others) = first ++ joined others
expr_step (Expr-F.And first others) = first ++ joined others
expr_step (Expr-F.Compare first operators others) = first ++ joined others
expr_step (Expr-F.Sum first operators others) = first ++ joined others
expr_step (Expr-F.Product first operators others) = first ++ joined others
expr_step (Expr-F.Prefix operator operand) = operand
expr_step (Expr-F.Primary operand posts) = operand ++ joined posts
expr_step (Expr-F.«Expr::Literal» literal) = []
expr_step (Expr-F.Name name) = []
expr_step (Expr-F.FuncLit signature body) = signature ++ body ∷ []
expr_step (Expr-F.Composite type_ elements) = type_ ++ joined elements
expr_step (Expr-F.CompositeArray type_ elements) = type_ ++ joined elements
expr_step (Expr-F.«Expr::Type» type_) = type_
expr_step (Expr-F.«Expr::Paren» inner) = inner
expr_step (Expr-F.ParenReceiveChan type_) = type_

abbrev pub post_step : Post-F Ranges Ranges Ranges Ranges Ranges Ranges Ranges Ranges Ranges Ranges → Ranges
post_step (Post-F.Selector name) = []
post_step (Post-F.TypeAssertion type_) = type_
post_step (Post-F.Index index) = index
post_step (Post-F.«Post::Slice» low high) = optional low ++ optional high
post_step (Post-F.FullSlice low high bound) = optional low ++ (high ++ bound)
post_step (Post-F.Call arguments spread) = joined arguments
post_step (Post-F.CallReceiveChan type_ arguments spread) = type_ ++ joined arguments

abbrev pub element_step : Element-F Ranges Ranges Ranges Ranges Ranges Ranges Ranges Ranges Ranges Ranges → Ranges
element_step e = optional e.key ++ e.value

abbrev pub value_step : ElementValue-F Ranges Ranges Ranges Ranges Ranges Ranges Ranges Ranges Ranges Ranges → Ranges
value_step (ElementValue-F.Value expr) = expr
value_step (ElementValue-F.«ElementValue::Literal» elements) = joined elements

abbrev pub type_step : Type-F Ranges Ranges Ranges Ranges Ranges Ranges Ranges Ranges Ranges Ranges → Ranges
type_step (Type-F.«Type::Named» name) = []
type_step (Type-F.«Type::Paren» inner) = inner
type_step (Type-F.Pointer base) = base
type_step (Type-F.«Type::Slice» item) = item
type_step (Type-F.Array length item) = length ++ item
type_step (Type-F.Map key item) = key ++ item
type_step (Type-F.Chan item) = item
type_step (Type-F.SendChan item) = item
type_step (Type-F.ReceiveChan item) = item
type_step (Type-F.Func signature) = signature
type_step (Type-F.Struct fields) = joined fields
type_step (Type-F.Interface elements) = joined elements

abbrev pub signature_step : Signature-F Ranges Ranges Ranges Ranges Ranges Ranges Ranges Ranges Ranges Ranges → Ranges
signature_step s = joined s.parameters ++ optional s.result

abbrev pub result_step : FuncResult-F Ranges Ranges Ranges Ranges Ranges Ranges Ranges Ranges Ranges Ranges → Ranges
result_step (FuncResult-F.Parameters parameters) = joined parameters
result_step (FuncResult-F.«FuncResult::Type» type_) = type_

abbrev pub parameter_step : ParameterDecl-F Ranges Ranges Ranges Ranges Ranges Ranges Ranges Ranges Ranges Ranges → Ranges
parameter_step p = p.type_

abbrev pub field_step : FieldDecl-F Ranges Ranges Ranges Ranges Ranges Ranges Ranges Ranges Ranges Ranges → Ranges
field_step (FieldDecl-F.«FieldDecl::Named» names type_ tag) = type_
field_step (FieldDecl-F.«FieldDecl::Embedded» pointer name tag) = []

abbrev pub interface_step : InterfaceElem-F Ranges Ranges Ranges Ranges Ranges Ranges Ranges Ranges Ranges Ranges → Ranges
interface_step (InterfaceElem-F.Method name signature) = signature
interface_step (InterfaceElem-F.«InterfaceElem::Embedded» name) = []

-- the function literals of an expression
abbrev pub expr_literals : Expr → Ranges
expr_literals = fold-Expr Ranges Ranges Ranges Ranges Ranges Ranges Ranges Ranges Ranges Ranges value_step expr_step post_step field_step result_step interface_step type_step element_step parameter_step signature_step

-- of a type
abbrev pub type_literals : Typ → Ranges
type_literals = fold-Type Ranges Ranges Ranges Ranges Ranges Ranges Ranges Ranges Ranges Ranges value_step expr_step post_step field_step result_step interface_step type_step element_step parameter_step signature_step

-- of expressions, one after another
abbrev pub exprs_literals : List Expr → Ranges
exprs_literals xs = joined (map expr_literals xs)

abbrev pub optional_expr : Option Expr → Ranges
optional_expr None = []
optional_expr (Some x) = expr_literals x

abbrev pub optional_exprs : Option (List Expr) → Ranges
optional_exprs None = []
optional_exprs (Some xs) = exprs_literals xs

abbrev pub optional_type : Option Typ → Ranges
optional_type None = []
optional_type (Some t) = type_literals t

abbrev pub optional_types : Option (List Typ) → Ranges
optional_types None = []
optional_types (Some ts) = joined (map type_literals ts)

-- of a group of constants or variables

abbrev pub const_literals : ConstSpec → Ranges
const_literals c = optional_type c.type_ ++ exprs_literals c.values

abbrev pub var_literals : VarSpec → Ranges
var_literals v = optional_type v.type_ ++ exprs_literals v.values

-- The steps of statements

abbrev pub kind_step : StmtKind-F Ranges Ranges Ranges Ranges Ranges → Ranges
kind_step StmtKind-F.Empty = []
kind_step (StmtKind-F.Expr x) = expr_literals x
kind_step (StmtKind-F.Send x y) = expr_literals x ++ expr_literals y
kind_step (StmtKind-F.Step x operator) = expr_literals x
kind_step (StmtKind-F.Assign xs ys) = exprs_literals xs ++ exprs_literals ys
kind_step (StmtKind-F.AssignOp x operator y) = expr_literals x ++ expr_literals y
kind_step (StmtKind-F.Define names ys) = exprs_literals ys
kind_step (StmtKind-F.Const specs) = joined (map const_literals specs)
kind_step (StmtKind-F.Var specs) = joined (map var_literals specs)
kind_step (StmtKind-F.Labeled name stmt) = stmt
kind_step (StmtKind-F.Go x) = expr_literals x
kind_step (StmtKind-F.Defer x) = expr_literals x
kind_step (StmtKind-F.Return xs) = exprs_literals xs
kind_step (StmtKind-F.Break name) = []
kind_step (StmtKind-F.Continue name) = []
kind_step (StmtKind-F.Goto name) = []
kind_step StmtKind-F.Fallthrough = []
kind_step (StmtKind-F.Block block) = joined block
kind_step (StmtKind-F.If init x block other) = optional init ++ (expr_literals x ++ (joined block ++ optional other))
kind_step (StmtKind-F.Switch init tag cases) = optional init ++ (optional_expr tag ++ joined cases)
kind_step (StmtKind-F.TypeSwitch init name x cases) = optional init ++ (expr_literals x ++ joined cases)
kind_step (StmtKind-F.Select cases) = joined cases
kind_step (StmtKind-F.For init x post block) = optional init ++ (optional_expr x ++ (optional post ++ joined block))
kind_step (StmtKind-F.While x block) = optional_expr x ++ joined block
kind_step (StmtKind-F.Range x block) = expr_literals x ++ joined block
kind_step (StmtKind-F.RangeAssign xs x block) = exprs_literals xs ++ (expr_literals x ++ joined block)
kind_step (StmtKind-F.RangeDefine names x block) = expr_literals x ++ joined block

abbrev pub stmt_step : Stmt-F Ranges Ranges Ranges Ranges Ranges → Ranges
stmt_step s = s.kind

abbrev pub case_step : Case-F Ranges Ranges Ranges Ranges Ranges → Ranges
case_step c = optional_exprs c.values ++ joined c.body

abbrev pub type_case_step : TypeCase-F Ranges Ranges Ranges Ranges Ranges → Ranges
type_case_step c = optional_types c.types ++ joined c.body

abbrev pub select_case_step : SelectCase-F Ranges Ranges Ranges Ranges Ranges → Ranges
select_case_step c = optional c.communication ++ joined c.body

-- the function literals of a statement
abbrev pub stmt_literals : Stmt → Ranges
stmt_literals = fold-Stmt Ranges Ranges Ranges Ranges Ranges kind_step case_step select_case_step stmt_step type_case_step

-- of a block
abbrev pub block_literals : List Stmt → Ranges
block_literals ss = joined (map stmt_literals ss)
