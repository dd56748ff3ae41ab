-- What a function value that reads primary expressions ensures.
-- Own: how the parser reads what the grammar derives.
use Rattle.std.specs.Prelude.{ℕ, Bool, List, Result}
use denote.Ref.{MutBor}
use Rattle.go_syntax.specs.declared.expression.Expr.{Expr}
use Rattle.go_syntax.specs.declared.token.Token.{Token}
use Rattle.go_syntax.specs.grammar.Terminals.{terminals}
use Rattle.go_cursor.specs.declared.error.ParseError.{ParseError}
use Rattle.go_cursor.specs.Reads.{Reads}
use Rattle.go_descent.specs.Levels.{levels}
use Rattle.go_descent.specs.Rules.{primary_expr}

-- the function value can be called, and reads a primary expression whose parts have a height below this
pub record ReadsPrimary (height : ℕ) (pre : Bool → MutBor (List Token) → Type 0)
    (post : Bool → MutBor (List Token) → Result Expr ParseError → MutBor (List Token) → Type 0) : Type 0 where
  pub callable : (composite : Bool) (old : MutBor (List Token)) → pre composite old
  pub reads : (composite : Bool) (old new : MutBor (List Token)) (r : Result Expr ParseError) → post composite old r new → Reads {A = Expr} (primary_expr composite (levels height) (terminals old.now)) r new.now
