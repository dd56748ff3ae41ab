-- What a reading by precedence finds behind an operand that is read: the operators and operands that follow, level by level.
-- Own: how the parser reads what the grammar derives.
use Rattle.std.specs.Prelude.{◌≡◌, Bool, false, [], Option, Some, None}
use Rattle.go_syntax.specs.declared.expression.Expr.{Expr}
use Rattle.go_syntax.specs.declared.token.TokenKind.{TokenKind}
use Rattle.go_syntax.specs.declared.token.TokenKind.TheVariants as kind
use Rattle.go_syntax.specs.grammar.Grammar.{comparison, sum_operator, product_operator, or_of, and_of, compare_of, sum_of, product_of}
use Rattle.go_syntax.specs.grammar.Symbols.{is_sign}
use Rattle.go_cursor.specs.Reading.{Reader, bind, run, step_of}
use Rattle.go_descent.specs.Rules.{Parts, after_sign, and_expr, compare_expr, operation, operator_at, product_expr, step_both, sum_expr, unary_expr}

-- what is next is no operator that can stand behind an operand
pub record EndsOperands (sign : Option TokenKind) : Type 0 where
  pub factor : operator_at product_operator sign ≡ None
  pub term : operator_at sum_operator sign ≡ None
  pub compared : operator_at comparison sign ≡ None
  pub conjunct : is_sign kind.LogicalAnd sign ≡ false
  pub disjunct : is_sign kind.LogicalOr sign ≡ false

module _ (b : Bool) (l : Parts) where
  -- ---- at each level, behind the first operand there

  unfoldable pub product_after : Expr → Reader Expr
  product_after x ts = bind (run (step_both (operation product_operator (unary_expr b l))) ([], []) ts) (λ p v. Some (product_of x p.0 p.1, v))

  unfoldable pub sum_behind : Expr → Reader Expr
  sum_behind x ts = bind (run (step_both (operation sum_operator (product_expr b l))) ([], []) ts) (λ p v. Some (sum_of x p.0 p.1, v))

  unfoldable pub compare_behind : Expr → Reader Expr
  compare_behind x ts = bind (run (step_both (operation comparison (sum_expr b l))) ([], []) ts) (λ p v. Some (compare_of x p.0 p.1, v))

  unfoldable pub and_behind : Expr → Reader Expr
  and_behind x ts = bind (run (step_of (after_sign kind.LogicalAnd (compare_expr b l))) [] ts) (λ xs v. Some (and_of x xs, v))

  unfoldable pub or_behind : Expr → Reader Expr
  or_behind x ts = bind (run (step_of (after_sign kind.LogicalOr (and_expr b l))) [] ts) (λ xs v. Some (or_of x xs, v))

  -- ---- at each level and those below it, behind the first operand of all

  unfoldable pub sum_after : Expr → Reader Expr
  sum_after x ts = bind (product_after x ts) sum_behind

  unfoldable pub compare_after : Expr → Reader Expr
  compare_after x ts = bind (sum_after x ts) compare_behind

  unfoldable pub and_after : Expr → Reader Expr
  and_after x ts = bind (compare_after x ts) and_behind

  unfoldable pub or_after : Expr → Reader Expr
  or_after x ts = bind (and_after x ts) or_behind
