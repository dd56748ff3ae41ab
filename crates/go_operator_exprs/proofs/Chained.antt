-- That an expression is its first operand and what follows it, level by level, and the operand alone where no operator follows.
use Rattle.std.proofs.Common.{◌≡◌, ℕ, zero, suc, Bool, false, if◌then◌else◌, List, [], drop, length, Option, Some, None, refl, ap, ◌∙◌}
use Rattle.go_syntax.specs.go_base.declared.operator.CompareOp.{CompareOp}
use Rattle.go_syntax.specs.go_base.declared.operator.ProductOperator.{ProductOperator}
use Rattle.go_syntax.specs.go_base.declared.operator.SumOperator.{SumOperator}
use Rattle.go_syntax.specs.declared.expression.Expr.{Expr}
use Rattle.go_syntax.specs.declared.token.TokenKind.{TokenKind}
use Rattle.go_syntax.specs.declared.token.TokenKind.TheVariants as kind
use Rattle.go_syntax.specs.grammar.Grammar.{comparison, sum_operator, product_operator, or_of, and_of, compare_of, sum_of, product_of}
use Rattle.go_syntax.specs.grammar.Symbols.{begins, sign_at}
use Rattle.go_syntax.specs.grammar.Terminals.{Terminal}
use Rattle.go_cursor.specs.Reading.{Found, Reader, Next, Stop, bind, after, loop, run, put, step_of}
use Rattle.go_cursor.proofs.Turns.{turn_stops}
use Rattle.go_descent.specs.Rules.{Parts, after_sign, and_expr, chain_of, compare_expr, expr_of, operated, operation, operator_at, plain_chain, product_expr, put_both, step_both, sum_expr, unary_expr}
use Rattle.go_operator_exprs.specs.Chains.{EndsOperands, and_after, and_behind, compare_after, compare_behind, or_after, or_behind, product_after, sum_after, sum_behind}

in_turn : {A B C : Type 0} (a : Found A) (f : A → Reader B) (g : B → Reader C) → bind (bind a f) g ≡ bind a (λ x u. bind (f x u) g)
in_turn None f g = refl
in_turn (Some p) f g = refl

-- ---- the first operand, and what follows it

module _ (b : Bool) (l : Parts) where
  pub product_is : (ts : List Terminal) → product_expr b l ts ≡ bind (unary_expr b l ts) (product_after b l)
  unfolding product_expr chain_of product_after
  product_is ts = refl

  pub sum_is : (ts : List Terminal) → sum_expr b l ts ≡ bind (unary_expr b l ts) (sum_after b l)
  unfolding sum_expr chain_of sum_after sum_behind
  sum_is ts = ap (λ (f : Found Expr). bind f (sum_behind b l)) (product_is ts) ∙ in_turn (unary_expr b l ts) (product_after b l) (sum_behind b l)

  pub compare_is : (ts : List Terminal) → compare_expr b l ts ≡ bind (unary_expr b l ts) (compare_after b l)
  unfolding compare_expr chain_of compare_after compare_behind
  compare_is ts = ap (λ (f : Found Expr). bind f (compare_behind b l)) (sum_is ts) ∙ in_turn (unary_expr b l ts) (sum_after b l) (compare_behind b l)

  pub and_is : (ts : List Terminal) → and_expr b l ts ≡ bind (unary_expr b l ts) (and_after b l)
  unfolding and_expr plain_chain and_after and_behind
  and_is ts = ap (λ (f : Found Expr). bind f (and_behind b l)) (compare_is ts) ∙ in_turn (unary_expr b l ts) (compare_after b l) (and_behind b l)

  pub or_is : (ts : List Terminal) → expr_of b l ts ≡ bind (unary_expr b l ts) (or_after b l)
  unfolding expr_of plain_chain or_after or_behind
  or_is ts = ap (λ (f : Found Expr). bind f (or_behind b l)) (and_is ts) ∙ in_turn (unary_expr b l ts) (and_after b l) (or_behind b l)

-- where the first operand is read, or isn't
module _ (found first : Found Expr) (following : Expr → Reader Expr) (is : found ≡ bind first following) where
  pub follows : (x : Expr) (u : List Terminal) → first ≡ Some (x, u) → found ≡ following x u
  follows x u e = is ∙ ap (λ (f : Found Expr). bind f following) e

  pub nothing_follows : first ≡ None → found ≡ None
  nothing_follows e = is ∙ ap (λ (f : Found Expr). bind f following) e

-- ---- no operator behind the first operand

module _ {A : Type 0} (step : A → List Terminal → Next A) (acc : A) (ts : List Terminal) (stops : step acc ts ≡ Stop) where
  stops_in : (n : ℕ) → loop step n acc ts ≡ Some (acc, ts)
  unfolding loop
  stops_in zero = refl
  stops_in (suc n) = turn_stops step n acc ts stops

  stops_at_once : run step acc ts ≡ Some (acc, ts)
  unfolding run
  stops_at_once = stops_in (length ts)

module _ (ts : List Terminal) where
  no_operations : {O : Type 0} (operator : TokenKind → Option O) (operand : Reader Expr) → operator_at operator (sign_at ts) ≡ None
      → run (step_both (operation operator operand)) ([], []) ts ≡ Some (([], []), ts)
  no_operations {O} operator operand e = stops_at_once (step_both (operation operator operand)) ([], []) ts (ap (λ (o : Option O). put_both [] [] (operated operand o ts)) e)

  none_after : (k : TokenKind) (operand : Reader Expr) → begins k ts ≡ false → run (step_of (after_sign k operand)) [] ts ≡ Some ([], ts)
  none_after k operand e = stops_at_once (step_of (after_sign k operand)) [] ts (ap (λ (t : Bool). put [] (if t then after (operand (drop 1 ts)) else Stop)) e)

module _ (b : Bool) (l : Parts) (x : Expr) (ts : List Terminal) (ends : EndsOperands (sign_at ts)) where
  product_alone : product_after b l x ts ≡ Some (x, ts)
  unfolding product_after
  product_alone = ap (λ (f : Found (List ProductOperator × List Expr)). bind f (λ p v. Some (product_of x p.0 p.1, v))) (no_operations ts product_operator (unary_expr b l) ends.factor)

  sum_alone : sum_after b l x ts ≡ Some (x, ts)
  unfolding sum_after sum_behind
  sum_alone = ap (λ (f : Found Expr). bind f (sum_behind b l)) product_alone ∙ ap (λ (f : Found (List SumOperator × List Expr)). bind f (λ p v. Some (sum_of x p.0 p.1, v))) (no_operations ts sum_operator (product_expr b l) ends.term)

  compare_alone : compare_after b l x ts ≡ Some (x, ts)
  unfolding compare_after compare_behind
  compare_alone = ap (λ (f : Found Expr). bind f (compare_behind b l)) sum_alone ∙ ap (λ (f : Found (List CompareOp × List Expr)). bind f (λ p v. Some (compare_of x p.0 p.1, v))) (no_operations ts comparison (sum_expr b l) ends.compared)

  and_alone : and_after b l x ts ≡ Some (x, ts)
  unfolding and_after and_behind
  and_alone = ap (λ (f : Found Expr). bind f (and_behind b l)) compare_alone ∙ ap (λ (f : Found (List Expr)). bind f (λ xs v. Some (and_of x xs, v))) (none_after ts kind.LogicalAnd (compare_expr b l) ends.conjunct)

  pub or_alone : or_after b l x ts ≡ Some (x, ts)
  unfolding or_after or_behind
  or_alone = ap (λ (f : Found Expr). bind f (or_behind b l)) and_alone ∙ ap (λ (f : Found (List Expr)). bind f (λ xs v. Some (or_of x xs, v))) (none_after ts kind.LogicalOr (and_expr b l) ends.disjunct)
