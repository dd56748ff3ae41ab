-- What the readers of statements, of blocks and of clauses find, where the readers of the statements that are their parts are given.
-- Own: how the parser reads what the grammar derives.
use Rattle.std.specs.Prelude.{ℕ, zero, suc, Bool, true, false, if◌then◌else◌, List, [], ◌∷◌, drop, Option, Some, None}
use Rattle.go_cursor.specs.Names.{names}
use Rattle.go_cursor.specs.Reading.{Found, Reader, Next, Stop, bind, after, run, step_of, expect, close, ended, name, begins_name}
use Rattle.go_descent.specs.Levels.{levels}
use Rattle.go_descent.specs.Rules.{expr_of, exprs, primary_expr, typ_of}
use Rattle.go_parse.specs.Declarations.{group, const_spec, var_spec}
use Rattle.go_simple_stmts.specs.SimpleStatements.{simple}
use Rattle.go_stmt_descent.specs.Communications.{communication_at}
use Rattle.go_stmt_descent.specs.declared.headers.ForHeader.{ForHeader}
use Rattle.go_stmt_descent.specs.declared.headers.ForHeader.TheVariants as header
use Rattle.go_stmt_descent.specs.Headers.{begins_binding, begins_guard, clause_before, for_header, if_has_init, optional_before, optional_init, switch_has_init}
use Rattle.go_syntax.specs.declared.expression.Expr.{Expr}
use Rattle.go_syntax.specs.declared.name.Name.{Name}
use Rattle.go_syntax.specs.declared.statement.Case.{Case, roll-Case}
use Rattle.go_syntax.specs.declared.statement.SelectCase.{SelectCase, roll-SelectCase}
use Rattle.go_syntax.specs.declared.statement.Stmt.{Stmt}
use Rattle.go_syntax.specs.declared.statement.StmtKind.{StmtKind}
use Rattle.go_syntax.specs.declared.statement.StmtKind.TheVariants as stmt
use Rattle.go_syntax.specs.declared.statement.TypeCase.{TypeCase, roll-TypeCase}
use Rattle.go_syntax.specs.declared.types.«Type».{«Type» as Typ}
use Rattle.go_syntax.specs.declared.token.TokenKind.{TokenKind}
use Rattle.go_syntax.specs.declared.token.TokenKind.TheVariants as kind
use Rattle.go_syntax.specs.grammar.Statements.{start_of, statement}
use Rattle.go_syntax.specs.grammar.Symbols.{begins, closes, sign_at}
use Rattle.go_syntax.specs.grammar.Terminals.{Terminal, Identifier}

-- the readers of statements, of blocks, and of the `if` or the block that follows `else`
pub record Statements : Type 0 where
  pub stmt : Reader Stmt
  pub block : Reader (List Stmt)
  pub branch : Reader Stmt

-- Lists

-- whether the statements of a block or a clause end here
abbrev pub stops : List Terminal → Bool
stops ts = if closes ts then true else if begins kind.CaseWord ts then true else begins kind.DefaultWord ts

unfoldable pub stmt_item : Reader Stmt → List Terminal → Next Stmt
stmt_item stmt ts = if stops ts then Stop else after (bind (stmt ts) ended)

unfoldable pub stmts : Reader Stmt → Reader (List Stmt)
stmts stmt ts = run (step_of (stmt_item stmt)) [] ts

unfoldable pub block_of : Reader Stmt → Reader (List Stmt)
block_of stmt ts = bind (expect kind.LeftBrace ts) (λ _ u. bind (stmts stmt u) (λ ss. close kind.RightBrace ss))

-- Clauses

-- the statements of a clause, from `:` on
unfoldable pub clause_body : Reader Stmt → Reader (List Stmt)
clause_body stmt ts = bind (expect kind.Colon ts) (λ _ u. stmts stmt u)

abbrev pub a_case : Option (List Expr) → List Stmt → Case
a_case values body = roll-Case (record { values = values; body = body })

unfoldable pub values_case : ℕ → Reader Stmt → Reader Case
values_case h stmt ts = bind (exprs (expr_of true (levels h)) ts) (λ xs u. bind (clause_body stmt u) (λ ss v. Some (a_case (Some xs) ss, v)))

unfoldable pub default_case : Reader Stmt → Reader Case
default_case stmt ts = bind (clause_body stmt ts) (λ ss u. Some (a_case None ss, u))

unfoldable pub case_item : ℕ → Reader Stmt → List Terminal → Next Case
case_item h stmt ts =
    if begins kind.CaseWord ts then after (values_case h stmt (drop 1 ts)) else
    if begins kind.DefaultWord ts then after (default_case stmt (drop 1 ts)) else Stop

unfoldable pub cases : ℕ → Reader Stmt → Reader (List Case)
cases h stmt ts = run (step_of (case_item h stmt)) [] ts

abbrev pub type_item : ℕ → List Terminal → Next Typ
type_item h ts = if begins kind.Comma ts then after (typ_of (levels h) (drop 1 ts)) else Stop

unfoldable pub types : ℕ → Reader (List Typ)
types h ts = bind (typ_of (levels h) ts) (λ t. run (step_of (type_item h)) (t ∷ []))

abbrev pub a_type_case : Option (List Typ) → List Stmt → TypeCase
a_type_case types body = roll-TypeCase (record { types = types; body = body })

unfoldable pub types_case : ℕ → Reader Stmt → Reader TypeCase
types_case h stmt ts = bind (types h ts) (λ xs u. bind (clause_body stmt u) (λ ss v. Some (a_type_case (Some xs) ss, v)))

unfoldable pub default_type_case : Reader Stmt → Reader TypeCase
default_type_case stmt ts = bind (clause_body stmt ts) (λ ss u. Some (a_type_case None ss, u))

unfoldable pub type_case_item : ℕ → Reader Stmt → List Terminal → Next TypeCase
type_case_item h stmt ts =
    if begins kind.CaseWord ts then after (types_case h stmt (drop 1 ts)) else
    if begins kind.DefaultWord ts then after (default_type_case stmt (drop 1 ts)) else Stop

unfoldable pub type_cases : ℕ → Reader Stmt → Reader (List TypeCase)
type_cases h stmt ts = run (step_of (type_case_item h stmt)) [] ts

abbrev pub a_select_case : Option Stmt → List Stmt → SelectCase
a_select_case communication body = roll-SelectCase (record { communication = communication; body = body })

unfoldable pub communication_case : ℕ → Reader Stmt → Reader SelectCase
communication_case h stmt ts = bind (communication_at h ts) (λ k u. bind (clause_body stmt u) (λ ss v. Some (a_select_case (Some (statement (start_of ts) k)) ss, v)))

unfoldable pub default_select_case : Reader Stmt → Reader SelectCase
default_select_case stmt ts = bind (clause_body stmt ts) (λ ss u. Some (a_select_case None ss, u))

unfoldable pub select_case_item : ℕ → Reader Stmt → List Terminal → Next SelectCase
select_case_item h stmt ts =
    if begins kind.CaseWord ts then after (communication_case h stmt (drop 1 ts)) else
    if begins kind.DefaultWord ts then after (default_select_case stmt (drop 1 ts)) else Stop

unfoldable pub select_cases : ℕ → Reader Stmt → Reader (List SelectCase)
select_cases h stmt ts = run (step_of (select_case_item h stmt)) [] ts

-- Statements, from behind their keyword on

unfoldable pub const_stmt : ℕ → Reader StmtKind
const_stmt h ts = bind (group (const_spec (levels (suc h))) ts) (λ xs u. Some (stmt.Const xs, u))

unfoldable pub var_stmt : ℕ → Reader StmtKind
var_stmt h ts = bind (group (var_spec (levels (suc h))) ts) (λ xs u. Some (stmt.Var xs, u))

unfoldable pub go_stmt : ℕ → Reader StmtKind
go_stmt h ts = bind (expr_of true (levels h) ts) (λ x u. Some (stmt.Go x, u))

unfoldable pub defer_stmt : ℕ → Reader StmtKind
defer_stmt h ts = bind (expr_of true (levels h) ts) (λ x u. Some (stmt.Defer x, u))

-- whether a statement ends here
abbrev pub ends_stmt : List Terminal → Bool
ends_stmt ts = if begins kind.Semicolon ts then true else closes ts

unfoldable pub return_stmt : ℕ → Reader StmtKind
return_stmt h ts = if ends_stmt ts then Some (stmt.Return [], ts) else bind (exprs (expr_of true (levels h)) ts) (λ xs u. Some (stmt.Return xs, u))

-- a label that may be missing
unfoldable pub label : Reader (Option Name)
label ts = if begins_name ts then bind (name ts) (λ n u. Some (Some n, u)) else Some (None, ts)

unfoldable pub break_stmt : Reader StmtKind
break_stmt ts = bind (label ts) (λ n u. Some (stmt.Break n, u))

unfoldable pub continue_stmt : Reader StmtKind
continue_stmt ts = bind (label ts) (λ n u. Some (stmt.Continue n, u))

unfoldable pub goto_stmt : Reader StmtKind
goto_stmt ts = bind (name ts) (λ n u. Some (stmt.Goto n, u))

-- `else` and what follows it, which may be missing
unfoldable pub else_of : Statements → Reader (Option Stmt)
else_of s ts = if begins kind.ElseWord ts then bind (s.branch (drop 1 ts)) (λ e u. Some (Some e, u)) else Some (None, ts)

unfoldable pub if_of : ℕ → Statements → Reader StmtKind
if_of h s ts = bind (optional_init (if_has_init h ts) h ts) (λ i u. bind (expr_of false (levels h) u) (λ x v. bind (s.block v) (λ ss w. bind (else_of s w) (λ e y. Some (stmt.If i x ss e, y)))))

-- a switch behind the statement before its tag
unfoldable pub value_switch : ℕ → Statements → Option Stmt → Reader StmtKind
value_switch h s i ts = bind (optional_before kind.LeftBrace h ts) (λ tag u. bind (expect kind.LeftBrace u) (λ _ v. bind (cases h s.stmt v) (λ cs. close kind.RightBrace (stmt.Switch i tag cs))))

-- a name and `:=` that may be missing
unfoldable pub binding : Reader (Option Name)
binding ts = if begins_binding ts then bind (name ts) (λ n. close kind.Define (Some n)) else Some (None, ts)

-- `.(type)` and `{`
unfoldable pub guard_end : Reader (Unit {0})
guard_end ts = bind (expect kind.Period ts) (λ _ u. bind (expect kind.LeftParen u) (λ _ v. bind (expect kind.TypeWord v) (λ _ w. bind (expect kind.RightParen w) (λ _ y. expect kind.LeftBrace y))))

-- and a type switch behind that before its guard
unfoldable pub type_switch : ℕ → Statements → Option Stmt → Reader StmtKind
type_switch h s i ts = bind (binding ts) (λ n u. bind (primary_expr false (levels h) u) (λ x v. bind (guard_end v) (λ _ w. bind (type_cases h s.stmt w) (λ cs. close kind.RightBrace (stmt.TypeSwitch i n x cs)))))

unfoldable pub switch_end : ℕ → Statements → Option Stmt → Reader StmtKind
switch_end h s i ts = if begins_guard h ts then type_switch h s i ts else value_switch h s i ts

unfoldable pub switch_of : ℕ → Statements → Reader StmtKind
switch_of h s ts = bind (optional_init (switch_has_init h ts) h ts) (switch_end h s)

unfoldable pub select_of : ℕ → Statements → Reader StmtKind
select_of h s ts = bind (expect kind.LeftBrace ts) (λ _ u. bind (select_cases h s.stmt u) (λ cs. close kind.RightBrace (stmt.Select cs)))

unfoldable pub while_of : ℕ → Statements → Reader StmtKind
while_of h s ts = bind (optional_before kind.LeftBrace h ts) (λ x u. bind (s.block u) (λ ss v. Some (stmt.While x ss, v)))

unfoldable pub for_clauses : ℕ → Statements → Reader StmtKind
for_clauses h s ts =
    bind (clause_before kind.Semicolon h ts) (λ i u. bind (expect kind.Semicolon u) (λ _ v. bind (optional_before kind.Semicolon h v) (λ x w. bind (expect kind.Semicolon w) (λ _ y.
    bind (clause_before kind.LeftBrace h y) (λ post z. bind (s.block z) (λ ss m. Some (stmt.For i x post ss, m)))))))

unfoldable pub range_of : ℕ → Statements → Reader StmtKind
range_of h s ts = bind (expect kind.RangeWord ts) (λ _ u. bind (expr_of false (levels h) u) (λ x v. bind (s.block v) (λ ss w. Some (stmt.Range x ss, w))))

unfoldable pub range_assign : ℕ → Statements → Reader StmtKind
range_assign h s ts =
    bind (exprs (expr_of false (levels h)) ts) (λ xs u. bind (expect kind.Assign u) (λ _ v. bind (expect kind.RangeWord v) (λ _ w.
    bind (expr_of false (levels h) w) (λ x y. bind (s.block y) (λ ss z. Some (stmt.RangeAssign xs x ss, z))))))

unfoldable pub range_define : ℕ → Statements → Reader StmtKind
range_define h s ts =
    bind (names ts) (λ ns u. bind (expect kind.Define u) (λ _ v. bind (expect kind.RangeWord v) (λ _ w.
    bind (expr_of false (levels h) w) (λ x y. bind (s.block y) (λ ss z. Some (stmt.RangeDefine ns x ss, z))))))

abbrev pub for_by : ℕ → Statements → ForHeader → Reader StmtKind
for_by h s header.Condition ts = while_of h s ts
for_by h s header.Range ts = range_of h s ts
for_by h s header.RangeAssign ts = range_assign h s ts
for_by h s header.RangeDefine ts = range_define h s ts
for_by h s header.Clauses ts = for_clauses h s ts

unfoldable pub for_of : ℕ → Statements → Reader StmtKind
for_of h s ts = for_by h s (for_header h ts) ts

-- Statements

-- whether a label is next
abbrev pub begins_label : List Terminal → Bool
begins_label (Identifier n ∷ ts) = begins kind.Colon ts
begins_label _ = false

unfoldable pub labeled : Statements → Reader StmtKind
labeled s ts = bind (name ts) (λ n u. bind (expect kind.Colon u) (λ _ v. bind (s.stmt v) (λ x w. Some (stmt.Labeled n x, w))))

unfoldable pub block_stmt : Statements → Reader StmtKind
block_stmt s ts = bind (block_of s.stmt ts) (λ ss u. Some (stmt.Block ss, u))

-- a statement that no keyword and no `{` begins
unfoldable pub plain : ℕ → Statements → Reader StmtKind
plain h s ts = if begins_label ts then labeled s ts else if ends_stmt ts then Some (stmt.Empty, ts) else simple true (levels h) ts

-- a statement by the keyword or the operator that is next
abbrev pub kind_of : ℕ → Statements → TokenKind → Reader StmtKind
kind_of h s kind.ConstWord ts = const_stmt h (drop 1 ts)
kind_of h s kind.VarWord ts = var_stmt h (drop 1 ts)
kind_of h s kind.GoWord ts = go_stmt h (drop 1 ts)
kind_of h s kind.DeferWord ts = defer_stmt h (drop 1 ts)
kind_of h s kind.ReturnWord ts = return_stmt h (drop 1 ts)
kind_of h s kind.BreakWord ts = break_stmt (drop 1 ts)
kind_of h s kind.ContinueWord ts = continue_stmt (drop 1 ts)
kind_of h s kind.GotoWord ts = goto_stmt (drop 1 ts)
kind_of h s kind.FallthroughWord ts = Some (stmt.Fallthrough, drop 1 ts)
kind_of h s kind.LeftBrace ts = block_stmt s ts
kind_of h s kind.IfWord ts = if_of h s (drop 1 ts)
kind_of h s kind.SwitchWord ts = switch_of h s (drop 1 ts)
kind_of h s kind.SelectWord ts = select_of h s (drop 1 ts)
kind_of h s kind.ForWord ts = for_of h s (drop 1 ts)
kind_of h s _ ts = plain h s ts

abbrev pub kind_by : ℕ → Statements → Option TokenKind → Reader StmtKind
kind_by h s None ts = plain h s ts
kind_by h s (Some k) ts = kind_of h s k ts

abbrev pub placed : Found StmtKind → ℕ → Found Stmt
placed found start = bind found (λ k u. Some (statement start k, u))

unfoldable pub stmt_of : ℕ → Statements → Reader Stmt
stmt_of h s ts = placed (kind_by h s (sign_at ts) ts) (start_of ts)

-- what follows `else`
unfoldable pub branch_of : ℕ → Statements → Reader Stmt
branch_of h s ts = if begins kind.IfWord ts then placed (if_of h s (drop 1 ts)) (start_of ts) else placed (block_stmt s ts) (start_of ts)

-- Heights

-- a statement without parts
abbrev pub flat_of : TokenKind → Reader StmtKind
flat_of kind.ReturnWord ts = Some (stmt.Return [], drop 1 ts)
flat_of kind.BreakWord ts = Some (stmt.Break None, drop 1 ts)
flat_of kind.ContinueWord ts = Some (stmt.Continue None, drop 1 ts)
flat_of kind.FallthroughWord ts = Some (stmt.Fallthrough, drop 1 ts)
flat_of _ ts = Some (stmt.Empty, ts)

abbrev pub flat_by : Option TokenKind → Reader StmtKind
flat_by None ts = Some (stmt.Empty, ts)
flat_by (Some k) ts = flat_of k ts

unfoldable pub flat_stmt : Reader Stmt
flat_stmt ts = placed (flat_by (sign_at ts) ts) (start_of ts)

abbrev pub nothing : {A : Type 0} → Reader A
nothing ts = None

abbrev pub flat_statements : Statements
flat_statements = record { stmt = flat_stmt; block = nothing; branch = nothing }

-- the readers of what these are the parts of
abbrev pub statements_over : ℕ → Statements → Statements
statements_over h s = record { stmt = stmt_of h s; block = block_of s.stmt; branch = branch_of h s }

-- the readers of what has at most this height
unfoldable pub statements : ℕ → Statements
statements zero = flat_statements
statements (suc h) = statements_over h (statements h)
