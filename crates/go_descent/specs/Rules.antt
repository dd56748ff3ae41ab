-- What each rule's reader finds, where the readers of the parts, whose trees are lower, are given.
-- Own: how the parser reads what the grammar derives.
use Rattle.std.specs.Prelude.{ℕ, zero, suc, Bool, true, false, if◌then◌else◌, List, [], ◌∷◌, ◌++◌, drop, Option, Some, None}
use Rattle.go_syntax.specs.declared.expression.Element.{Element}
use Rattle.go_syntax.specs.declared.expression.ElementValue.{ElementValue}
use Rattle.go_syntax.specs.declared.expression.ElementValue.TheVariants as value
use Rattle.go_syntax.specs.declared.expression.Expr.{Expr}
use Rattle.go_syntax.specs.declared.expression.Expr.TheVariants as expr
use Rattle.go_syntax.specs.declared.expression.Literal.{Literal}
use Rattle.go_syntax.specs.declared.expression.Post.{Post}
use Rattle.go_syntax.specs.declared.expression.Post.TheVariants as post
use Rattle.go_syntax.specs.declared.name.Name.{Name}
use Rattle.go_syntax.specs.declared.name.QualifiedName.{QualifiedName}
use Rattle.go_cursor.specs.go_base.declared.operator.PrefixOperator.{PrefixOperator}
use Rattle.go_syntax.specs.declared.body.BodyRange.{BodyRange}
use Rattle.go_syntax.specs.declared.types.FieldDecl.{FieldDecl}
use Rattle.go_syntax.specs.declared.types.FieldDecl.TheVariants as field
use Rattle.go_syntax.specs.declared.types.FuncResult.TheVariants as result
use Rattle.go_syntax.specs.declared.types.InterfaceElem.{InterfaceElem}
use Rattle.go_syntax.specs.declared.types.InterfaceElem.TheVariants as elem
use Rattle.go_syntax.specs.declared.types.ParameterDecl.{ParameterDecl}
use Rattle.go_syntax.specs.declared.types.Signature.{Signature}
use Rattle.go_syntax.specs.declared.types.«Type».{«Type» as Typ}
use Rattle.go_syntax.specs.declared.types.«Type».TheVariants as type
use Rattle.go_syntax.specs.declared.token.TokenKind.{TokenKind}
use Rattle.go_syntax.specs.declared.token.TokenKind.TheVariants as kind
use Rattle.go_syntax.specs.grammar.Grammar.{comparison, sum_operator, product_operator, prefix_operator, or_of, and_of, compare_of, sum_of, product_of, primary_of, parameter, signature, none_variadic, last_variadic, element}
use Rattle.go_syntax.specs.grammar.Symbols.{begins, begins_type, closes, sign_at}
use Rattle.go_syntax.specs.grammar.Terminals.{Terminal}
use Rattle.go_cursor.specs.LookAheads.{is_named, names_field, names_method, names_composite, begins_receive, begins_type_switch}
use Rattle.go_cursor.specs.Names.{names, type_name, tag}
use Rattle.go_cursor.specs.Reading.{Found, Reader, Next, Stop, Fail, More, bind, after, run, step_of, expect, close, past, goes_on, ended, name, begins_name, literal_at}
use Rattle.go_cursor.specs.Skipping.{is_composite}

-- the readers of parts: of trees that are lower than the one that is read
pub record Parts : Type 0 where
  -- whether there are any lower trees
  pub deep : Bool
  pub expr : Reader Expr
  -- the operand of a prefix operator, by whether a type's name may begin a composite literal
  pub unary : Bool → Reader Expr
  pub typ : Reader Typ
  -- slices, arrays, maps and structs
  pub composite_type : Reader Typ
  pub signature : Reader Signature
  pub literal_value : Reader (List Element)
  pub body : Reader BodyRange

-- Parameters

unfoldable pub parameter_of : Reader Typ → List Name → Reader ParameterDecl
parameter_of typ ns ts = if begins kind.Ellipsis ts then bind (typ (drop 1 ts)) (λ t u. Some (parameter ns true t, u)) else bind (typ ts) (λ t u. Some (parameter ns false t, u))

abbrev pub unnamed_item : Reader Typ → List Terminal → Next ParameterDecl
unnamed_item typ ts = if goes_on ts then after (parameter_of typ [] (drop 1 ts)) else Stop

unfoldable pub unnamed : Reader Typ → Reader (List ParameterDecl)
unnamed typ ts = bind (parameter_of typ [] ts) (λ d. run (step_of (unnamed_item typ)) (d ∷ []))

unfoldable pub named_parameter : Reader Typ → Reader ParameterDecl
named_parameter typ ts = bind (names ts) (λ ns. parameter_of typ ns)

abbrev pub named_item : Reader Typ → List Terminal → Next ParameterDecl
named_item typ ts = if goes_on ts then after (named_parameter typ (drop 1 ts)) else Stop

unfoldable pub named : Reader Typ → Reader (List ParameterDecl)
named typ ts = bind (named_parameter typ ts) (λ d. run (step_of (named_item typ)) (d ∷ []))

unfoldable pub some_parameters : Reader Typ → Reader (List ParameterDecl)
some_parameters typ ts = bind (if is_named ts then named typ ts else unnamed typ ts) (λ ds u. close kind.RightParen ds (past kind.Comma u))

unfoldable pub parameters : Reader Typ → Reader (List ParameterDecl)
parameters typ ts = bind (expect kind.LeftParen ts) (λ _ u. if begins kind.RightParen u then Some ([], drop 1 u) else some_parameters typ u)

unfoldable pub result_parameters : Reader Typ → List ParameterDecl → Reader Signature
result_parameters typ ds ts = bind (parameters typ ts) (λ rs u. if none_variadic rs then Some (signature ds (Some (result.Parameters rs)), u) else None)

unfoldable pub signature_end : Reader Typ → List ParameterDecl → Reader Signature
signature_end typ ds ts =
    if begins kind.LeftParen ts then result_parameters typ ds ts else
    if begins_type ts then bind (typ ts) (λ t u. Some (signature ds (Some (result.Type t)), u)) else Some (signature ds None, ts)

unfoldable pub signature_of : Parts → Reader Signature
signature_of l ts = if l.deep then bind (parameters l.typ ts) (λ ds u. if last_variadic ds then signature_end l.typ ds u else None) else None

-- Types

unfoldable pub slice_or_array : Parts → Reader Typ
slice_or_array l ts =
    if begins kind.RightBracket ts then bind (l.typ (drop 1 ts)) (λ t u. Some (type.Slice t, u))
    else bind (l.expr ts) (λ x u. bind (expect kind.RightBracket u) (λ _ v. bind (l.typ v) (λ t w. Some (type.Array x t, w))))

unfoldable pub map_type : Parts → Reader Typ
map_type l ts = bind (expect kind.LeftBracket ts) (λ _ u. bind (l.typ u) (λ key v. bind (expect kind.RightBracket v) (λ _ w. bind (l.typ w) (λ t y. Some (type.Map key t, y)))))

unfoldable pub embedded_field : Bool → Reader FieldDecl
embedded_field pointer ts = bind (type_name ts) (λ q u. bind (tag u) (λ text v. Some (field.Embedded pointer q text, v)))

unfoldable pub named_field : Parts → Reader FieldDecl
named_field l ts = bind (names ts) (λ ns u. bind (l.typ u) (λ t v. bind (tag v) (λ text w. Some (field.Named ns t text, w))))

unfoldable pub field_of : Parts → Reader FieldDecl
field_of l ts = if begins kind.Multiply ts then embedded_field true (drop 1 ts) else if names_field ts then named_field l ts else embedded_field false ts

abbrev pub field_item : Parts → List Terminal → Next FieldDecl
field_item l ts = if closes ts then Stop else after (bind (field_of l ts) ended)

unfoldable pub fields : Parts → Reader (List FieldDecl)
fields l ts = run (step_of (field_item l)) [] ts

unfoldable pub struct_type : Parts → Reader Typ
struct_type l ts = bind (expect kind.LeftBrace ts) (λ _ u. if begins kind.RightBrace u then Some (type.Struct [], drop 1 u) else if l.deep then bind (fields l u) (λ fs. close kind.RightBrace (type.Struct fs)) else None)

unfoldable pub composite_type : Parts → Reader Typ
composite_type l ts =
    if begins kind.LeftBracket ts then slice_or_array l (drop 1 ts) else
    if begins kind.MapWord ts then map_type l (drop 1 ts) else
    if begins kind.StructWord ts then struct_type l (drop 1 ts) else None

unfoldable pub chan_type : Parts → Reader Typ
chan_type l ts = if begins kind.Arrow ts then bind (l.typ (drop 1 ts)) (λ t u. Some (type.SendChan t, u)) else bind (l.typ ts) (λ t u. Some (type.Chan t, u))

unfoldable pub method_of : Parts → Name → Reader InterfaceElem
method_of l n ts = bind (l.signature ts) (λ s u. Some (elem.Method n s, u))

unfoldable pub interface_elem : Parts → Reader InterfaceElem
interface_elem l ts = if names_method ts then bind (name ts) (method_of l) else bind (type_name ts) (λ q u. Some (elem.Embedded q, u))

abbrev pub interface_item : Parts → List Terminal → Next InterfaceElem
interface_item l ts = if closes ts then Stop else after (bind (interface_elem l ts) ended)

unfoldable pub interface_elems : Parts → Reader (List InterfaceElem)
interface_elems l ts = run (step_of (interface_item l)) [] ts

unfoldable pub interface_type : Parts → Reader Typ
interface_type l ts = bind (expect kind.LeftBrace ts) (λ _ u. if begins kind.RightBrace u then Some (type.Interface [], drop 1 u) else if l.deep then bind (interface_elems l u) (λ es. close kind.RightBrace (type.Interface es)) else None)

unfoldable pub receive_type : Parts → Reader Typ
receive_type l ts = bind (expect kind.ChanWord ts) (λ _ u. l.typ u)

unfoldable pub typ_of : Parts → Reader Typ
typ_of l ts =
    if begins kind.LeftParen ts then bind (l.typ (drop 1 ts)) (λ t. close kind.RightParen (type.Paren t)) else
    if begins kind.Multiply ts then bind (l.typ (drop 1 ts)) (λ t u. Some (type.Pointer t, u)) else
    if begins kind.Arrow ts then bind (receive_type l (drop 1 ts)) (λ t u. Some (type.ReceiveChan t, u)) else
    if begins kind.FuncWord ts then bind (l.signature (drop 1 ts)) (λ s u. Some (type.Func s, u)) else
    if begins kind.ChanWord ts then chan_type l (drop 1 ts) else
    if begins kind.InterfaceWord ts then interface_type l (drop 1 ts) else
    if begins_name ts then bind (type_name ts) (λ q u. Some (type.Named q, u)) else composite_type l ts

-- Literals

unfoldable pub element_value : Parts → Reader ElementValue
element_value l ts = if begins kind.LeftBrace ts then bind (l.literal_value ts) (λ es u. Some (value.Literal es, u)) else bind (l.expr ts) (λ x u. Some (value.Value x, u))

unfoldable pub element_of : Parts → Reader Element
element_of l ts = bind (element_value l ts) (λ k u. if begins kind.Colon u then bind (element_value l (drop 1 u)) (λ v w. Some (element (Some k) v, w)) else Some (element None k, u))

abbrev pub element_item : Parts → List Terminal → Next Element
element_item l ts = if goes_on ts then after (element_of l (drop 1 ts)) else Stop

unfoldable pub elements : Parts → Reader (List Element)
elements l ts = bind (element_of l ts) (λ e. run (step_of (element_item l)) (e ∷ []))

unfoldable pub literal_value_of : Parts → Reader (List Element)
literal_value_of l ts = if l.deep then bind (expect kind.LeftBrace ts) (λ _ u. if begins kind.RightBrace u then Some ([], drop 1 u) else bind (elements l u) (λ es v. close kind.RightBrace es (past kind.Comma v))) else None

-- Operands

unfoldable pub named_composite : Parts → QualifiedName → Reader Expr
named_composite l q ts = bind (l.literal_value ts) (λ es u. Some (expr.Composite (type.Named q) es, u))

unfoldable pub name_operand : Bool → Parts → Reader Expr
name_operand true l ts = if names_composite ts then bind (type_name ts) (named_composite l) else bind (name ts) (λ n u. Some (expr.Name n, u))
name_operand false l ts = bind (name ts) (λ n u. Some (expr.Name n, u))

unfoldable pub func_operand : Parts → Reader Expr
func_operand l ts = bind (l.signature ts) (λ s u. if begins kind.LeftBrace u then bind (l.body u) (λ b v. Some (expr.FuncLit s b, v)) else Some (expr.Type (type.Func s), u))

unfoldable pub composite_operand : Parts → Reader Expr
composite_operand l ts =
    if is_composite ts then bind (l.composite_type ts) (λ t u. bind (l.literal_value u) (λ es v. Some (expr.Composite t es, v)))
    else bind (composite_type l ts) (λ t u. if begins kind.LeftBrace u then None else Some (expr.Type t, u))

-- `[...]T{..}`, from `...` on
unfoldable pub array_operand : Parts → Reader Expr
array_operand l ts = bind (expect kind.Ellipsis ts) (λ _ u. bind (expect kind.RightBracket u) (λ _ v. bind (l.typ v) (λ t w. bind (l.literal_value w) (λ es y. Some (expr.CompositeArray t es, y)))))

unfoldable pub paren_operand : Parts → Reader Expr
paren_operand l ts =
    if begins_receive ts then bind (l.typ (drop 2 ts)) (λ t. close kind.RightParen (expr.ParenReceiveChan t))
    else bind (l.expr ts) (λ x. close kind.RightParen (expr.Paren x))

unfoldable pub other_operand : Reader Typ → Reader Expr
other_operand typ ts = bind (typ ts) (λ t u. Some (expr.Type t, u))

unfoldable pub sign_operand : Parts → Reader Expr
sign_operand l ts =
    if begins kind.LeftParen ts then paren_operand l (drop 1 ts) else
    if begins kind.FuncWord ts then func_operand l (drop 1 ts) else
    if begins kind.ChanWord ts then other_operand (chan_type l) (drop 1 ts) else
    if begins kind.InterfaceWord ts then other_operand (interface_type l) (drop 1 ts) else
    if begins kind.LeftBracket ts then (if begins kind.Ellipsis (drop 1 ts) then array_operand l (drop 1 ts) else composite_operand l ts)
    else composite_operand l ts

abbrev pub operand_at : Bool → Parts → Option Literal → Reader Expr
operand_at b l (Some x) ts = Some (expr.Literal x, drop 1 ts)
operand_at b l None ts = if begins_name ts then name_operand b l ts else sign_operand l ts

unfoldable pub operand : Bool → Parts → Reader Expr
operand b l ts = operand_at b l (literal_at ts) ts

-- Posts

abbrev pub expr_item : Reader Expr → List Terminal → Next Expr
expr_item expr ts = if goes_on ts then after (expr (drop 1 ts)) else Stop

unfoldable pub more_exprs : Reader Expr → List Expr → Reader (List Expr)
more_exprs expr xs ts = run (step_of (expr_item expr)) xs ts

unfoldable pub exprs : Reader Expr → Reader (List Expr)
exprs expr ts = bind (expr ts) (λ x. more_exprs expr (x ∷ []))

unfoldable pub call_end : Post → Reader Post
call_end p ts = close kind.RightParen p (past kind.Comma (past kind.Ellipsis ts))

unfoldable pub call : Parts → Reader Post
call l ts =
    if begins kind.RightParen ts then Some (post.Call [] false, drop 1 ts) else
    if begins_receive ts then bind (l.typ (drop 2 ts)) (λ t u. bind (more_exprs l.expr [] u) (λ xs v. call_end (post.CallReceiveChan t xs (begins kind.Ellipsis v)) v))
    else bind (exprs l.expr ts) (λ xs u. call_end (post.Call xs (begins kind.Ellipsis u)) u)

-- an index or a bound, which may be missing before `:` and `]`
unfoldable pub bound : Parts → Reader (Option Expr)
bound l ts = if begins kind.Colon ts then Some (None, ts) else if begins kind.RightBracket ts then Some (None, ts) else bind (l.expr ts) (λ x u. Some (Some x, u))

abbrev pub index_of : Option Expr → Reader Post
index_of None ts = None
index_of (Some x) ts = close kind.RightBracket (post.Index x) ts

abbrev pub full_slice : Parts → Option Expr → Option Expr → Reader Post
full_slice l low None ts = None
full_slice l low (Some high) ts = bind (l.expr ts) (λ max. close kind.RightBracket (post.FullSlice low high max))

unfoldable pub slice_end : Parts → Option Expr → Option Expr → Reader Post
slice_end l low high ts = if begins kind.Colon ts then full_slice l low high (drop 1 ts) else close kind.RightBracket (post.Slice low high) ts

unfoldable pub index : Parts → Reader Post
index l ts = bind (bound l ts) (λ low u. if begins kind.Colon u then bind (bound l (drop 1 u)) (slice_end l low) else index_of low u)

unfoldable pub selector : Parts → Reader Post
selector l ts = if begins_name ts then bind (name ts) (λ n u. Some (post.Selector n, u)) else
    if l.deep then bind (expect kind.LeftParen ts) (λ _ u. bind (l.typ u) (λ t. close kind.RightParen (post.TypeAssertion t))) else None

abbrev pub nest : {A : Type 0} → Bool → Found A → Found A
nest deep found = if deep then found else None

unfoldable pub post_item : Parts → List Terminal → Next Post
post_item l ts =
    if begins kind.LeftParen ts then after (nest l.deep (call l (drop 1 ts))) else
    if begins kind.LeftBracket ts then after (nest l.deep (index l (drop 1 ts))) else
    if begins_type_switch ts then Stop else
    if begins kind.Period ts then after (selector l (drop 1 ts)) else Stop

unfoldable pub primary_expr : Bool → Parts → Reader Expr
primary_expr b l ts = bind (operand b l ts) (λ x u. bind (run (step_of (post_item l)) [] u) (λ ps v. Some (primary_of x ps, v)))

-- Operators

abbrev pub operator_at : {O : Type 0} → (TokenKind → Option O) → Option TokenKind → Option O
operator_at operator None = None
operator_at operator (Some k) = operator k

abbrev pub prefixed : Bool → Parts → Option PrefixOperator → Reader Expr
prefixed b l None ts = primary_expr b l ts
prefixed b l (Some op) ts = bind (l.unary b (drop 1 ts)) (λ x u. Some (expr.Prefix op x, u))

unfoldable pub unary_expr : Bool → Parts → Reader Expr
unary_expr b l ts = if begins_receive ts then None else prefixed b l (operator_at prefix_operator (sign_at ts)) ts

-- one operator and operand more
abbrev pub put_both : {O A : Type 0} → List O → List A → Next (O × A) → Next (List O × List A)
put_both ops xs Stop = Stop
put_both ops xs Fail = Fail
put_both ops xs (More p ts) = More (ops ++ p.0 ∷ [], xs ++ p.1 ∷ []) ts

abbrev pub step_both : {O A : Type 0} → (List Terminal → Next (O × A)) → List O × List A → List Terminal → Next (List O × List A)
step_both item acc ts = put_both acc.0 acc.1 (item ts)

abbrev pub operated : {O : Type 0} → Reader Expr → Option O → List Terminal → Next (O × Expr)
operated operand None ts = Stop
operated operand (Some op) ts = after (bind (operand (drop 1 ts)) (λ x u. Some ((op, x), u)))

-- an operator, and the operand after it
abbrev pub operation : {O : Type 0} → (TokenKind → Option O) → Reader Expr → List Terminal → Next (O × Expr)
operation operator operand ts = operated operand (operator_at operator (sign_at ts)) ts

unfoldable pub chain_of : {O : Type 0} → (TokenKind → Option O) → (Expr → List O → List Expr → Expr) → Reader Expr → Reader Expr
chain_of operator made operand ts = bind (operand ts) (λ x u. bind (run (step_both (operation operator operand)) ([], []) u) (λ p v. Some (made x p.0 p.1, v)))

abbrev pub after_sign : TokenKind → Reader Expr → List Terminal → Next Expr
after_sign k operand ts = if begins k ts then after (operand (drop 1 ts)) else Stop

unfoldable pub plain_chain : TokenKind → (Expr → List Expr → Expr) → Reader Expr → Reader Expr
plain_chain k made operand ts = bind (operand ts) (λ x u. bind (run (step_of (after_sign k operand)) [] u) (λ xs v. Some (made x xs, v)))

unfoldable pub product_expr : Bool → Parts → Reader Expr
product_expr b l = chain_of product_operator product_of (unary_expr b l)

unfoldable pub sum_expr : Bool → Parts → Reader Expr
sum_expr b l = chain_of sum_operator sum_of (product_expr b l)

unfoldable pub compare_expr : Bool → Parts → Reader Expr
compare_expr b l = chain_of comparison compare_of (sum_expr b l)

unfoldable pub and_expr : Bool → Parts → Reader Expr
and_expr b l = plain_chain kind.LogicalAnd and_of (compare_expr b l)

unfoldable pub expr_of : Bool → Parts → Reader Expr
expr_of b l = plain_chain kind.LogicalOr or_of (and_expr b l)

-- Levels

abbrev pub nothing : {A : Type 0} → Reader A
nothing ts = None

abbrev pub no_parts : Parts
no_parts = record { deep = false; expr = nothing; unary = λ b. nothing; typ = nothing; composite_type = nothing; signature = nothing; literal_value = nothing; body = nothing }

-- the readers of trees that these are the parts of
abbrev pub whole_parts : Reader BodyRange → Parts → Parts
whole_parts body l = record {
  deep = true;
  expr = expr_of true l;
  unary = λ b. unary_expr b l;
  typ = typ_of l;
  composite_type = composite_type l;
  signature = signature_of l;
  literal_value = literal_value_of l;
  body = body;
}

-- the readers of trees of a height below this
unfoldable pub parts : (ℕ → Reader BodyRange) → ℕ → Parts
parts body zero = no_parts
parts body (suc h) = whole_parts (body h) (parts body h)
