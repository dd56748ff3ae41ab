-- What the readers of the headers of `if`, `switch` and `for` find, and what the tokens ahead say of a header.
-- Own: how the parser reads what the grammar derives.
use Rattle.std.specs.Prelude.{ℕ, zero, suc, Bool, true, false, not, if◌then◌else◌, List, ◌∷◌, drop, Option, Some, None}
use Rattle.go_cursor.specs.LookAheads.{begins_type_switch}
use Rattle.go_cursor.specs.Names.{names}
use Rattle.go_cursor.specs.Reading.{Found, Reader, bind, close}
use Rattle.go_descent.specs.Levels.{levels}
use Rattle.go_descent.specs.Rules.{expr_of, exprs}
use Rattle.go_simple_stmts.specs.SimpleStatements.{begins_definition, simple}
use Rattle.go_stmt_descent.specs.declared.headers.ForHeader.{ForHeader}
use Rattle.go_stmt_descent.specs.declared.headers.ForHeader.TheVariants as header
use Rattle.go_syntax.specs.declared.expression.Expr.{Expr}
use Rattle.go_syntax.specs.declared.name.Name.{Name}
use Rattle.go_syntax.specs.declared.statement.Stmt.{Stmt}
use Rattle.go_syntax.specs.declared.statement.StmtKind.{StmtKind}
use Rattle.go_syntax.specs.declared.statement.StmtKind.TheVariants as stmt
use Rattle.go_syntax.specs.declared.token.TokenKind.{TokenKind}
use Rattle.go_syntax.specs.declared.token.TokenKind.TheVariants as kind
use Rattle.go_syntax.specs.grammar.Statements.{start_of, statement}
use Rattle.go_syntax.specs.grammar.Symbols.{begins}
use Rattle.go_syntax.specs.grammar.Terminals.{Terminal, Identifier}

-- a simple statement of at most this height
unfoldable pub simple_at : Bool → ℕ → Reader StmtKind
simple_at b zero ts = None
simple_at b (suc h) ts = simple b (levels h) ts

-- one in a header
unfoldable pub clause : ℕ → Reader Stmt
clause h ts = bind (simple_at false h ts) (λ k u. Some (statement (start_of ts) k, u))

-- one before a condition or a tag, and its semicolon
unfoldable pub init : ℕ → Reader (Option Stmt)
init h ts = if begins kind.Semicolon ts then Some (Some (statement (start_of ts) stmt.Empty), drop 1 ts) else bind (clause h ts) (λ s. close kind.Semicolon (Some s))

abbrev pub optional_init : Bool → ℕ → Reader (Option Stmt)
optional_init true h ts = init h ts
optional_init false h ts = Some (None, ts)

-- an expression that may be missing before this token
unfoldable pub optional_before : TokenKind → ℕ → Reader (Option Expr)
optional_before k h ts = if begins k ts then Some (None, ts) else bind (expr_of false (levels h) ts) (λ x u. Some (Some x, u))

-- a simple statement that may be missing before this token
unfoldable pub clause_before : TokenKind → ℕ → Reader (Option Stmt)
clause_before k h ts = if begins k ts then Some (None, ts) else bind (clause h ts) (λ s u. Some (Some s, u))

-- What is ahead

abbrev pub brace_follows : Found Expr → Bool
brace_follows None = false
brace_follows (Some p) = begins kind.LeftBrace p.1

abbrev pub guard_follows : Found Expr → Bool
guard_follows None = false
guard_follows (Some p) = begins_type_switch p.1

-- whether an expression and then the block are next
unfoldable pub begins_condition : ℕ → List Terminal → Bool
begins_condition h ts = if begins_definition ts then false else brace_follows (expr_of false (levels h) ts)

-- whether a name and `:=` are next
abbrev pub begins_binding : List Terminal → Bool
begins_binding (Identifier n ∷ ts) = begins kind.Define ts
begins_binding _ = false

abbrev pub past_binding : List Terminal → List Terminal
past_binding ts = if begins_binding ts then drop 2 ts else ts

-- whether the guard of a type switch is next
unfoldable pub begins_guard : ℕ → List Terminal → Bool
begins_guard h ts = guard_follows (expr_of false (levels h) (past_binding ts))

-- whether a statement stands before the condition, or before the tag or the guard
unfoldable pub if_has_init : ℕ → List Terminal → Bool
if_has_init h ts = if begins kind.Semicolon ts then true else not (begins_condition h ts)

unfoldable pub switch_has_init : ℕ → List Terminal → Bool
switch_has_init h ts = if begins kind.LeftBrace ts then false else if begins_guard h ts then false else if_has_init h ts

-- whether this token and `range` are next
abbrev pub ranges : TokenKind → List Terminal → Bool
ranges k ts = if begins k ts then begins kind.RangeWord (drop 1 ts) else false

abbrev pub range_follows : Found (List Name) → Bool
range_follows None = false
range_follows (Some p) = ranges kind.Define p.1

abbrev pub header_of_names : Bool → ForHeader
header_of_names true = header.RangeDefine
header_of_names false = header.Clauses

abbrev pub header_after : List Terminal → ForHeader
header_after ts = if begins kind.LeftBrace ts then header.Condition else if ranges kind.Assign ts then header.RangeAssign else header.Clauses

abbrev pub header_of_exprs : Found (List Expr) → ForHeader
header_of_exprs None = header.Clauses
header_of_exprs (Some p) = header_after p.1

-- what the header of a `for` is
unfoldable pub for_header : ℕ → List Terminal → ForHeader
for_header h ts =
    if begins kind.LeftBrace ts then header.Condition else
    if begins kind.RangeWord ts then header.Range else
    if begins kind.Semicolon ts then header.Clauses else
    if begins_definition ts then header_of_names (range_follows (names ts)) else header_of_exprs (exprs (expr_of false (levels h)) ts)
