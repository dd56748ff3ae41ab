-- What the readers of simple statements find is in the grammar.
use Rattle.std.proofs.Common.{◌≡◌, ℕ, suc, List, [], ◌∷◌, drop, Bool, Option, Some, None, refl}
use Rattle.go_base.specs.declared.operator.AssignOperator.{AssignOperator}
use Rattle.go_base.specs.declared.operator.StepOperator.{StepOperator}
use Rattle.go_cursor.specs.Names.{names}
use Rattle.go_cursor.specs.Reading.{expect, goes_on}
use Rattle.go_cursor.proofs.Steps.{Sound, with_bind, branch, same, taken, expected, names_sound}
use Rattle.go_descent.specs.Rules.{Parts, expr_of, exprs, more_exprs, operator_at}
use Rattle.go_descent.proofs.Begins.{read}
use Rattle.go_descent.proofs.SoundPosts.{exprs_sound}
use Rattle.go_simple_stmts.specs.SimpleStatements.{assignment, begins_definition, definition, expr_end, list_end, operated, operation, send, simple, stepped}
use Rattle.go_syntax.specs.declared.body.BodyRange.{BodyRange}
use Rattle.go_syntax.specs.declared.expression.Expr.{Expr}
use Rattle.go_syntax.specs.declared.statement.StmtKind.{StmtKind}
use Rattle.go_syntax.specs.declared.token.TokenKind.{TokenKind}
use Rattle.go_syntax.specs.declared.token.TokenKind.TheVariants as kind
use Rattle.go_syntax.specs.grammar.Grammar.{IsExpr, IsExprs, exprs as is_exprs, exprs_none}
use Rattle.go_syntax.specs.grammar.Statements.{IsSimple, assign_operator, simple_assign, simple_define, simple_expr, simple_operation, simple_send, simple_step, step_operator}
use Rattle.go_syntax.specs.grammar.Symbols.{Rule, Takes, takes, begins, sign_at}
use Rattle.go_syntax.specs.grammar.Terminals.{Terminal, Sign, Identifier, Basic, Odd}

-- the operator that is next
operator_taken : {O : Type 0} (operator : TokenKind → Option O) (ts : List Terminal) (op : O) → operator_at operator (sign_at ts) ≡ Some op → (k : TokenKind) × Takes k ts (drop 1 ts) × (operator k ≡ Some op)
operator_taken operator [] op e = absurd (cc)
operator_taken operator (Sign k at ∷ ts) op e = (k, takes at, e)
operator_taken operator (Identifier n ∷ ts) op e = absurd (cc)
operator_taken operator (Basic l place ∷ ts) op e = absurd (cc)
operator_taken operator (Odd ∷ ts) op e = absurd (cc)

module _ (Body : ℕ → Rule BodyRange) (b : Bool) (h : ℕ) (l : Parts) (sound : Sound (IsExpr Body b h) (expr_of b l)) where
  D : Rule StmtKind
  D = IsSimple Body b (suc h)

  definition_sound : Sound D (definition b l)
  unfolding D definition
  definition_sound ts k rest e = with_bind (names ts) _ e (λ ns u en ed. with_bind (expect kind.Define u) _ ed (λ _ v ev ex. with_bind (exprs (expr_of b l) v) _ ex (λ xs w ew q.
      same (IsSimple Body b (suc h)) ts (simple_define (names_sound ts ns u en) (expected kind.Define u ev) (exprs_sound Body b h (expr_of b l) sound v xs w ew)) q)))

  assignment_sound : (ts u : List Terminal) (xs : List Expr) → IsExprs Body b h ts xs u → (k : StmtKind) (rest : List Terminal) → assignment b l xs u ≡ Some (k, rest) → D ts k rest
  unfolding D assignment
  assignment_sound ts u xs d k rest e = with_bind (expect kind.Assign u) _ e (λ _ v ev ex. with_bind (exprs (expr_of b l) v) _ ex (λ ys w ew q.
      same (IsSimple Body b (suc h)) ts (simple_assign d (expected kind.Assign u ev) (exprs_sound Body b h (expr_of b l) sound v ys w ew)) q))

  module _ (ts u : List Terminal) (x : Expr) (d : IsExpr Body b h ts x u) (k : StmtKind) (rest : List Terminal) where
    operated_sound : (o : Option AssignOperator) → operator_at assign_operator (sign_at u) ≡ o → operated b l x o u ≡ Some (k, rest) → D ts k rest
    unfolding D operation
    operated_sound None is e = same (IsSimple Body b (suc h)) ts (simple_expr d) e
    operated_sound (Some op) is e = with_bind (expr_of b l (drop 1 u)) _ e (λ y v ey q. let t = operator_taken assign_operator u op is in same (IsSimple Body b (suc h)) ts (simple_operation d t.1 t.2 (sound (drop 1 u) y v ey)) q)

    stepped_sound : (o : Option StepOperator) → operator_at step_operator (sign_at u) ≡ o → stepped b l x o u ≡ Some (k, rest) → D ts k rest
    unfolding D
    stepped_sound None is e = operated_sound (operator_at assign_operator (sign_at u)) refl e
    stepped_sound (Some op) is e = let t = operator_taken step_operator u op is in same (IsSimple Body b (suc h)) ts (simple_step d t.1 t.2) e

    expr_end_sound : expr_end b l x u ≡ Some (k, rest) → D ts k rest
    unfolding D expr_end send
    expr_end_sound e = branch (begins kind.Arrow u) e
        (λ c es. with_bind (expr_of b l (drop 1 u)) _ es (λ y v ey q. same (IsSimple Body b (suc h)) ts (simple_send d (taken kind.Arrow u c) (sound (drop 1 u) y v ey)) q))
        (λ c ee. branch (begins kind.Assign u) ee (λ a ea. assignment_sound ts u (x ∷ []) (is_exprs d exprs_none) k rest ea) (λ a es. stepped_sound (operator_at step_operator (sign_at u)) refl es))

  -- expressions, once the first one is found
  listed : (ts u v : List Terminal) (x : Expr) (xs : List Expr) → expr_of b l ts ≡ Some (x, u) → more_exprs (expr_of b l) (x ∷ []) u ≡ Some (xs, v) → exprs (expr_of b l) ts ≡ Some (xs, v)
  unfolding exprs
  listed ts u v x xs ex em = read (expr_of b l ts) _ ex em

  pub simple_sound : (ts : List Terminal) (k : StmtKind) (rest : List Terminal) → simple b l ts ≡ Some (k, rest) → IsSimple Body b (suc h) ts k rest
  unfolding D simple list_end
  simple_sound ts k rest e = branch (begins_definition ts) e (λ c ed. definition_sound ts k rest ed)
      (λ c el. with_bind (expr_of b l ts) _ el (λ x u ex en. branch (goes_on u) en
      (λ g em. with_bind (more_exprs (expr_of b l) (x ∷ []) u) _ em (λ xs v ev ea. assignment_sound ts v xs (exprs_sound Body b h (expr_of b l) sound ts xs v (listed ts u v x xs ex ev)) k rest ea))
      (λ g ee. expr_end_sound ts u x (sound ts x u ex) k rest ee)))
