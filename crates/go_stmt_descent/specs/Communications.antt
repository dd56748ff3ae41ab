-- What the readers of the communications of `select` find.
-- Own: how the parser reads what the grammar derives.
use Rattle.std.specs.Prelude.{ℕ, zero, suc, Bool, true, false, if◌then◌else◌, List, [], ◌∷◌, drop, Option, Some, None}
use Rattle.go_cursor.specs.Names.{names}
use Rattle.go_cursor.specs.Reading.{Found, Reader, bind, close, expect, goes_on}
use Rattle.go_descent.specs.Levels.{levels}
use Rattle.go_descent.specs.Rules.{expr_of, more_exprs, unary_expr}
use Rattle.go_simple_stmts.specs.SimpleStatements.{begins_definition}
use Rattle.go_syntax.specs.declared.expression.Expr.{Expr}
use Rattle.go_syntax.specs.declared.expression.Expr.TheVariants as expr
use Rattle.go_syntax.specs.declared.statement.StmtKind.{StmtKind}
use Rattle.go_syntax.specs.declared.statement.StmtKind.TheVariants as stmt
use Rattle.go_syntax.specs.declared.token.TokenKind.TheVariants as kind
use Rattle.go_syntax.specs.grammar.Symbols.{begins}
use Rattle.go_syntax.specs.grammar.Terminals.{Terminal}

unfoldable pub receive_alone : ℕ → Reader Expr
receive_alone h ts = if begins kind.Arrow ts then unary_expr true (levels h) ts else None

-- a receive, which may stand in parentheses
unfoldable pub receive : ℕ → Reader Expr
receive zero ts = if begins kind.LeftParen ts then None else receive_alone zero ts
receive (suc h) ts = if begins kind.LeftParen ts then bind (receive h (drop 1 ts)) (λ x. close kind.RightParen (expr.Paren x)) else receive_alone (suc h) ts

-- an assignment of a receive to these, from `=` on
unfoldable pub receive_assign : ℕ → List Expr → Reader StmtKind
receive_assign h xs ts = bind (expect kind.Assign ts) (λ _ u. bind (receive h u) (λ x v. Some (stmt.Assign xs (x ∷ []), v)))

unfoldable pub receive_define : ℕ → Reader StmtKind
receive_define h ts = bind (names ts) (λ ns u. bind (expect kind.Define u) (λ _ v. bind (receive h v) (λ x w. Some (stmt.Define ns (x ∷ []), w))))

abbrev pub colon_follows : Found Expr → Bool
colon_follows None = false
colon_follows (Some p) = begins kind.Colon p.1

-- whether a receive and `:` are next
unfoldable pub begins_receive : ℕ → List Terminal → Bool
begins_receive h ts = colon_follows (receive h ts)

-- a send to this channel, from behind `<-` on
unfoldable pub send : ℕ → Expr → Reader StmtKind
send h x ts = bind (expr_of true (levels h) ts) (λ y u. Some (stmt.Send x y, u))

-- what follows the first expression of a send or an assignment
unfoldable pub communication_end : ℕ → Expr → Reader StmtKind
communication_end h x ts =
    if goes_on ts then bind (more_exprs (expr_of true (levels h)) (x ∷ []) ts) (receive_assign h) else
    if begins kind.Arrow ts then send h x (drop 1 ts) else receive_assign h (x ∷ []) ts

-- what a case of a `select` waits for
unfoldable pub communication : ℕ → Reader StmtKind
communication h ts =
    if begins_definition ts then receive_define h ts else
    if begins_receive h ts then bind (receive h ts) (λ x u. Some (stmt.Expr x, u)) else bind (expr_of true (levels h) ts) (communication_end h)

-- the same of at most this height
unfoldable pub communication_at : ℕ → Reader StmtKind
communication_at zero ts = None
communication_at (suc h) ts = communication h ts
