-- What the readers of simple statements find, where the readers of the parts are given.
-- Own: how the parser reads what the grammar derives.
use Rattle.std.specs.Prelude.{Bool, false, if◌then◌else◌, List, [], ◌∷◌, drop, Option, Some, None}
use Rattle.go_base.specs.declared.operator.AssignOperator.{AssignOperator}
use Rattle.go_base.specs.declared.operator.StepOperator.{StepOperator}
use Rattle.go_cursor.specs.Names.{names}
use Rattle.go_cursor.specs.Reading.{Reader, bind, expect, goes_on}
use Rattle.go_descent.specs.Rules.{Parts, expr_of, exprs, more_exprs, operator_at}
use Rattle.go_syntax.specs.declared.expression.Expr.{Expr}
use Rattle.go_syntax.specs.declared.statement.StmtKind.{StmtKind}
use Rattle.go_syntax.specs.declared.statement.StmtKind.TheVariants as stmt
use Rattle.go_syntax.specs.declared.token.TokenKind.TheVariants as kind
use Rattle.go_syntax.specs.grammar.Statements.{assign_operator, step_operator}
use Rattle.go_syntax.specs.grammar.Symbols.{begins, sign_at}
use Rattle.go_syntax.specs.grammar.Terminals.{Terminal, Sign, Identifier}

-- whether names with commas between them begin here, and `:=` follows them
unfoldable pub begins_definition : List Terminal → Bool
begins_definition (Identifier n ∷ Sign kind.Comma at ∷ ts) = begins_definition ts
begins_definition (Identifier n ∷ ts) = begins kind.Define ts
begins_definition _ = false

-- a short variable declaration
unfoldable pub definition : Bool → Parts → Reader StmtKind
definition b l ts = bind (names ts) (λ ns u. bind (expect kind.Define u) (λ _ v. bind (exprs (expr_of b l) v) (λ xs w. Some (stmt.Define ns xs, w))))

-- an assignment to these, from `=` on
unfoldable pub assignment : Bool → Parts → List Expr → Reader StmtKind
assignment b l xs ts = bind (expect kind.Assign ts) (λ _ u. bind (exprs (expr_of b l) u) (λ ys v. Some (stmt.Assign xs ys, v)))

-- an assignment to this with an operator, from behind the operator on
unfoldable pub operation : Bool → Parts → Expr → AssignOperator → Reader StmtKind
operation b l x op ts = bind (expr_of b l ts) (λ y u. Some (stmt.AssignOp x op y, u))

-- a send to this channel, from behind `<-` on
unfoldable pub send : Bool → Parts → Expr → Reader StmtKind
send b l x ts = bind (expr_of b l ts) (λ y u. Some (stmt.Send x y, u))

abbrev pub operated : Bool → Parts → Expr → Option AssignOperator → Reader StmtKind
operated b l x (Some op) ts = operation b l x op (drop 1 ts)
operated b l x None ts = Some (stmt.Expr x, ts)

abbrev pub stepped : Bool → Parts → Expr → Option StepOperator → Reader StmtKind
stepped b l x (Some op) ts = Some (stmt.Step x op, drop 1 ts)
stepped b l x None ts = operated b l x (operator_at assign_operator (sign_at ts)) ts

-- a statement that begins with this expression, from behind the expression on
unfoldable pub expr_end : Bool → Parts → Expr → Reader StmtKind
expr_end b l x ts =
    if begins kind.Arrow ts then send b l x (drop 1 ts) else
    if begins kind.Assign ts then assignment b l (x ∷ []) ts else stepped b l x (operator_at step_operator (sign_at ts)) ts

-- the same where a comma and another expression may follow
unfoldable pub list_end : Bool → Parts → Expr → Reader StmtKind
list_end b l x ts = if goes_on ts then bind (more_exprs (expr_of b l) (x ∷ []) ts) (assignment b l) else expr_end b l x ts

-- a simple statement that isn't empty
unfoldable pub simple : Bool → Parts → Reader StmtKind
simple b l ts = if begins_definition ts then definition b l ts else bind (expr_of b l ts) (list_end b l)
