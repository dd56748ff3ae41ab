-- Each simple statement is found.
use Rattle.std.proofs.Common.{◌≡◌, ℕ, suc, List, [], ◌∷◌, Bool, true, false, not, Option, Some, None, refl, sym, ap, ◌∙◌}
use Rattle.go_base.specs.declared.operator.AssignOperator.{AssignOperator}
use Rattle.go_base.specs.declared.operator.StepOperator.{StepOperator}
use Rattle.go_cursor.specs.Names.{names}
use Rattle.go_cursor.specs.Reading.{Found, expect, goes_on}
use Rattle.go_descent.specs.Follow.{OverExpr}
use Rattle.go_descent.specs.Rules.{Parts, expr_of, exprs, more_exprs, operator_at}
use Rattle.go_descent.proofs.Begins.{read, if_so, if_not}
use Rattle.go_descent.proofs.BeginsExpr.{expr_begins, expr_not_closing}
use Rattle.go_descent.proofs.CompleteNames.{names_read}
use Rattle.go_descent.proofs.CompleteParts.{KnownBodies, over, over_comma}
use Rattle.go_descent.proofs.CompletePosts.{exprs_read, more_exprs_read}
use Rattle.go_simple_stmts.specs.Follow.{OverSimple}
use Rattle.go_simple_stmts.specs.SimpleStatements.{assignment, begins_definition, definition, expr_end, list_end, operated, operation, send, simple, stepped}
use Rattle.go_syntax.specs.declared.body.BodyRange.{BodyRange}
use Rattle.go_syntax.specs.declared.expression.Expr.{Expr}
use Rattle.go_syntax.specs.declared.expression.Expr.TheVariants as expr
use Rattle.go_syntax.specs.declared.name.Name.{Name}
use Rattle.go_syntax.specs.declared.statement.StmtKind.{StmtKind}
use Rattle.go_syntax.specs.declared.statement.StmtKind.TheVariants as stmt
use Rattle.go_syntax.specs.declared.token.TokenKind.{TokenKind}
use Rattle.go_syntax.specs.declared.token.TokenKind.TheVariants as kind
use Rattle.go_syntax.specs.grammar.Grammar as grammar
use Rattle.go_syntax.specs.grammar.Grammar.{IsExpr, IsExprs, IsMoreExprs, IsNames, IsMoreNames}
use Rattle.go_syntax.specs.grammar.Statements.{IsSimple, assign_operator, simple_assign, simple_define, simple_expr, simple_operation, simple_send, simple_step, step_operator}
use Rattle.go_syntax.specs.grammar.Symbols.{Rule, takes, takes_name, begins, sign_at}
use Rattle.go_syntax.specs.grammar.Terminals.{Extent, Terminal, Sign, Identifier, Basic, Odd}

-- ---- what follows an expression in a statement

over_arrow : (b : Bool) (at : Extent) (ts : List Terminal) → OverExpr b (Sign kind.Arrow at ∷ ts)
over_arrow b at ts = over b (Sign kind.Arrow at ∷ ts) refl (λ _. refl) refl refl refl refl refl

over_assign : (b : Bool) (at : Extent) (ts : List Terminal) → OverExpr b (Sign kind.Assign at ∷ ts)
over_assign b at ts = over b (Sign kind.Assign at ∷ ts) refl (λ _. refl) refl refl refl refl refl

over_step : (b : Bool) (k : TokenKind) (op : StepOperator) (at : Extent) (ts : List Terminal) → step_operator k ≡ Some op → OverExpr b (Sign k at ∷ ts)
over_step b kind.Increment op at ts e = over b (Sign kind.Increment at ∷ ts) refl (λ _. refl) refl refl refl refl refl
over_step b kind.Decrement op at ts e = over b (Sign kind.Decrement at ∷ ts) refl (λ _. refl) refl refl refl refl refl
over_step b _ op at ts e = absurd (cc)

over_operation : (b : Bool) (k : TokenKind) (op : AssignOperator) (at : Extent) (ts : List Terminal) → assign_operator k ≡ Some op → OverExpr b (Sign k at ∷ ts)
over_operation b kind.AddAssign op at ts e = over b (Sign kind.AddAssign at ∷ ts) refl (λ _. refl) refl refl refl refl refl
over_operation b kind.SubtractAssign op at ts e = over b (Sign kind.SubtractAssign at ∷ ts) refl (λ _. refl) refl refl refl refl refl
over_operation b kind.OrAssign op at ts e = over b (Sign kind.OrAssign at ∷ ts) refl (λ _. refl) refl refl refl refl refl
over_operation b kind.XorAssign op at ts e = over b (Sign kind.XorAssign at ∷ ts) refl (λ _. refl) refl refl refl refl refl
over_operation b kind.MultiplyAssign op at ts e = over b (Sign kind.MultiplyAssign at ∷ ts) refl (λ _. refl) refl refl refl refl refl
over_operation b kind.DivideAssign op at ts e = over b (Sign kind.DivideAssign at ∷ ts) refl (λ _. refl) refl refl refl refl refl
over_operation b kind.RemainderAssign op at ts e = over b (Sign kind.RemainderAssign at ∷ ts) refl (λ _. refl) refl refl refl refl refl
over_operation b kind.ShiftLeftAssign op at ts e = over b (Sign kind.ShiftLeftAssign at ∷ ts) refl (λ _. refl) refl refl refl refl refl
over_operation b kind.ShiftRightAssign op at ts e = over b (Sign kind.ShiftRightAssign at ∷ ts) refl (λ _. refl) refl refl refl refl refl
over_operation b kind.AndAssign op at ts e = over b (Sign kind.AndAssign at ∷ ts) refl (λ _. refl) refl refl refl refl refl
over_operation b kind.AndNotAssign op at ts e = over b (Sign kind.AndNotAssign at ∷ ts) refl (λ _. refl) refl refl refl refl refl
over_operation b _ op at ts e = absurd (cc)

-- an operator is none of the other signs that may follow an expression

step_apart : (k : TokenKind) (op : StepOperator) (at : Extent) (ts : List Terminal) → step_operator k ≡ Some op
    → (goes_on (Sign k at ∷ ts) ≡ false) × (begins kind.Arrow (Sign k at ∷ ts) ≡ false) × (begins kind.Assign (Sign k at ∷ ts) ≡ false) × (begins kind.Comma (Sign k at ∷ ts) ≡ false) × (begins kind.Define (Sign k at ∷ ts) ≡ false)
step_apart kind.Increment op at ts e = (refl, refl, refl, refl, refl)
step_apart kind.Decrement op at ts e = (refl, refl, refl, refl, refl)
step_apart _ op at ts e = absurd (cc)

operation_apart : (k : TokenKind) (op : AssignOperator) (at : Extent) (ts : List Terminal) → assign_operator k ≡ Some op
    → (goes_on (Sign k at ∷ ts) ≡ false) × (begins kind.Arrow (Sign k at ∷ ts) ≡ false) × (begins kind.Assign (Sign k at ∷ ts) ≡ false) × (begins kind.Comma (Sign k at ∷ ts) ≡ false) × (begins kind.Define (Sign k at ∷ ts) ≡ false) × (step_operator k ≡ None)
operation_apart kind.AddAssign op at ts e = (refl, refl, refl, refl, refl, refl)
operation_apart kind.SubtractAssign op at ts e = (refl, refl, refl, refl, refl, refl)
operation_apart kind.OrAssign op at ts e = (refl, refl, refl, refl, refl, refl)
operation_apart kind.XorAssign op at ts e = (refl, refl, refl, refl, refl, refl)
operation_apart kind.MultiplyAssign op at ts e = (refl, refl, refl, refl, refl, refl)
operation_apart kind.DivideAssign op at ts e = (refl, refl, refl, refl, refl, refl)
operation_apart kind.RemainderAssign op at ts e = (refl, refl, refl, refl, refl, refl)
operation_apart kind.ShiftLeftAssign op at ts e = (refl, refl, refl, refl, refl, refl)
operation_apart kind.ShiftRightAssign op at ts e = (refl, refl, refl, refl, refl, refl)
operation_apart kind.AndAssign op at ts e = (refl, refl, refl, refl, refl, refl)
operation_apart kind.AndNotAssign op at ts e = (refl, refl, refl, refl, refl, refl)
operation_apart _ op at ts e = absurd (cc)

no_comma_stops : (ts : List Terminal) → begins kind.Comma ts ≡ false → goes_on ts ≡ false
no_comma_stops ts e = if_not _ _ _ e refl

-- ---- names before `:=`

defined_names : (n : Name) {u rest : List Terminal} {ns : List Name} → IsMoreNames u ns rest → begins kind.Define rest ≡ true → begins_definition (Identifier n ∷ u) ≡ true
unfolding begins_definition
defined_names n (grammar.names_none {ts = []}) e = absurd (cc)
defined_names n (grammar.names_none {ts = Sign kind.Comma at ∷ ts}) e = absurd (cc)
defined_names n (grammar.names_none {ts = _ ∷ ts}) e = e
defined_names n (grammar.names_more {n = m} (takes at) takes_name more) e = defined_names m more e

names_define : {ts rest : List Terminal} {ns : List Name} → IsNames ts ns rest → begins kind.Define rest ≡ true → begins_definition ts ≡ true
names_define (grammar.names {n = n} takes_name more) e = defined_names n more e

-- ---- statements

same_rest : {x y : Expr} {u v : List Terminal} → ◌≡◌ {A = Found Expr} (Some (x, u)) (Some (y, v)) → u ≡ v
same_rest {x = x} {y = y} {u = u} {v = v} e = let p : ◌≡◌ {A = Expr × List Terminal} (x, u) (y, v) = cc in ap (λ (q : Expr × List Terminal). q.1) p

same_tail : {s t : Terminal} {u v : List Terminal} → s ∷ u ≡ t ∷ v → u ≡ v
same_tail e = cc

truth_lie : {c : Bool} → c ≡ true → c ≡ false → ⊥
truth_lie t f = absurd (cc)

module _ {Body : ℕ → Rule BodyRange} (known : KnownBodies Body) (b : Bool) (h : ℕ) (l : Parts)
    (expr_read : (ts : List Terminal) (x : Expr) (rest : List Terminal) → IsExpr Body b h ts x rest → OverExpr b rest → expr_of b l ts ≡ Some (x, rest)) where
  -- a name alone is an expression
  name_alone : (n : Name) (ts : List Terminal) → IsExpr Body b h (Identifier n ∷ ts) (expr.Name n) ts
  name_alone n ts = grammar.expr_or (grammar.expr_and (grammar.expr_compare (grammar.expr_sum (grammar.expr_product (grammar.unary_primary (grammar.primary (grammar.operand_name takes_name) grammar.posts_none)) grammar.product_none) grammar.sum_none) grammar.compare_none) grammar.and_none) grammar.or_none

  more_over : {ts rest : List Terminal} {xs : List Expr} → IsMoreExprs Body b h ts xs rest → OverExpr b rest → OverExpr b ts
  more_over grammar.exprs_none o = o
  more_over (grammar.exprs_more {u = u} (takes at) d more) o = over_comma b at u

  -- what follows a name that an expression begins with, where it can't go on
  behind_name : {n : Name} {ts u : List Terminal} {x : Expr} → IsExpr Body b h (Identifier n ∷ ts) x u → OverExpr b u → OverExpr b ts → ts ≡ u
  behind_name {n = n} {ts = ts} d o p = same_rest (sym (expr_read (Identifier n ∷ ts) (expr.Name n) ts (name_alone n ts) p) ∙ expr_read (Identifier n ∷ ts) _ _ d o)

  over_define : (at : Extent) (ts : List Terminal) → OverExpr b (Sign kind.Define at ∷ ts)
  over_define at ts = over b (Sign kind.Define at ∷ ts) refl (λ _. refl) refl refl refl refl refl

  -- no `:=` follows expressions behind which there is none
  behind_define : {at : Extent} {w u rest : List Terminal} {xs : List Expr} → Sign kind.Define at ∷ w ≡ u → IsMoreExprs Body b h u xs rest → begins kind.Define rest ≡ false → ⊥
  behind_define q grammar.exprs_none f = truth_lie (ap (begins kind.Define) (sym q)) f
  behind_define q (grammar.exprs_more (takes a) d more) f = absurd (cc)

  no_definition : {ts u rest : List Terminal} {x : Expr} {xs : List Expr} → IsExpr Body b h ts x u → IsMoreExprs Body b h u xs rest → OverExpr b rest → begins kind.Comma rest ≡ false → begins kind.Define rest ≡ false → begins_definition ts ≡ false
  unfolding begins_definition
  no_definition {ts = []} d more o c f = refl
  no_definition {ts = Sign k at ∷ w} d more o c f = refl
  no_definition {ts = Basic t place ∷ w} d more o c f = refl
  no_definition {ts = Odd ∷ w} d more o c f = refl
  no_definition {ts = Identifier n ∷ []} d more o c f = refl
  no_definition {ts = Identifier n ∷ Sign kind.Comma at ∷ w} d grammar.exprs_none o c f = absurd (truth_lie (ap (begins kind.Comma) (sym (behind_name d o (over_comma b at w)))) c)
  no_definition {ts = Identifier n ∷ Sign kind.Comma at ∷ w} d (grammar.exprs_more {u = v} (takes a) e more) o c f = ap begins_definition (same_tail (behind_name d (over_comma b a v) (over_comma b at w))) ∙ no_definition e more o c f
  no_definition {ts = Identifier n ∷ Sign kind.Define at ∷ w} d more o c f = absurd (behind_define (behind_name d (more_over more o) (over_define at w)) more f)
  no_definition {ts = Identifier n ∷ _ ∷ w} d more o c f = refl

  listed : {v rest : List Terminal} {ys : List Expr} → IsExprs Body b h v ys rest → OverSimple b rest → exprs (expr_of b l) v ≡ Some (ys, rest)
  listed {rest = rest} ys o = exprs_read known.body_shorter (expr_of b l) expr_read ys o.expr (no_comma_stops rest o.comma)

  assigned : (xs : List Expr) (at : Extent) {v rest : List Terminal} {ys : List Expr} → IsExprs Body b h v ys rest → OverSimple b rest → assignment b l xs (Sign kind.Assign at ∷ v) ≡ Some (stmt.Assign xs ys, rest)
  unfolding assignment expect
  assigned xs at {v = v} ys o = read (exprs (expr_of b l) v) _ (listed ys o) refl

  sent : (x : Expr) {v rest : List Terminal} {y : Expr} → IsExpr Body b h v y rest → OverSimple b rest → send b l x v ≡ Some (stmt.Send x y, rest)
  unfolding send
  sent x {v = v} d o = read (expr_of b l v) _ (expr_read _ _ _ d o.expr) refl

  operated_read : (x : Expr) (op : AssignOperator) {v rest : List Terminal} {y : Expr} → IsExpr Body b h v y rest → OverSimple b rest → operation b l x op v ≡ Some (stmt.AssignOp x op y, rest)
  unfolding operation
  operated_read x op {v = v} d o = read (expr_of b l v) _ (expr_read _ _ _ d o.expr) refl

  defined : {ts v rest : List Terminal} {ns : List Name} {xs : List Expr} (at : Extent) → IsNames ts ns (Sign kind.Define at ∷ v) → IsExprs Body b h v xs rest → OverSimple b rest → definition b l ts ≡ Some (stmt.Define ns xs, rest)
  unfolding definition expect
  defined {ts = ts} {v = v} at ns xs o = read (names ts) _ (names_read ns refl) (read (exprs (expr_of b l) v) _ (listed xs o) refl)

  expr_alone : (x : Expr) (rest : List Terminal) → OverSimple b rest → stepped b l x (operator_at step_operator (sign_at rest)) rest ≡ Some (stmt.Expr x, rest)
  expr_alone x rest o = ap (λ (p : Option StepOperator). stepped b l x p rest) o.step ∙ ap (λ (p : Option AssignOperator). operated b l x p rest) o.operation

  pub simple_read : {ts rest : List Terminal} {k : StmtKind} → IsSimple Body b (suc h) ts k rest → OverSimple b rest → simple b l ts ≡ Some (k, rest)
  unfolding simple list_end expr_end
  simple_read {ts = ts} {rest = rest} (simple_expr {x = x} d) o =
      if_not _ _ _ (no_definition d grammar.exprs_none o.expr o.comma o.define) (read (expr_of b l ts) _ (expr_read _ _ _ d o.expr)
      (if_not _ _ _ (no_comma_stops rest o.comma) (if_not _ _ _ o.arrow (if_not _ _ _ o.assign (expr_alone x rest o)))))
  simple_read {ts = ts} (simple_send {v = v} {x = x} d (takes at) y) o =
      if_not _ _ _ (no_definition d grammar.exprs_none (over_arrow b at v) refl refl) (read (expr_of b l ts) _ (expr_read _ _ _ d (over_arrow b at v)) (sent x y o))
  simple_read {ts = ts} {rest = rest} (simple_step {k = j} {op = op} {x = x} d (takes at) e) o =
      let a = step_apart j op at rest e in
      if_not _ _ _ (no_definition d grammar.exprs_none (over_step b j op at rest e) a.3 a.4) (read (expr_of b l ts) _ (expr_read _ _ _ d (over_step b j op at rest e))
      (if_not _ _ _ a.0 (if_not _ _ _ a.1 (if_not _ _ _ a.2 (ap (λ (p : Option StepOperator). stepped b l x p (Sign j at ∷ rest)) e)))))
  simple_read {ts = ts} (simple_operation {v = v} {k = j} {op = op} {x = x} d (takes at) e y) o =
      let a = operation_apart j op at v e in
      if_not _ _ _ (no_definition d grammar.exprs_none (over_operation b j op at v e) a.3 a.4) (read (expr_of b l ts) _ (expr_read _ _ _ d (over_operation b j op at v e))
      (if_not _ _ _ a.0 (if_not _ _ _ a.1 (if_not _ _ _ a.2
      (ap (λ (p : Option StepOperator). stepped b l x p (Sign j at ∷ v)) a.5 ∙ ap (λ (p : Option AssignOperator). operated b l x p (Sign j at ∷ v)) e ∙ operated_read x op y o)))))
  simple_read {ts = ts} (simple_assign {v = v} (grammar.exprs {x = x} d grammar.exprs_none) (takes at) ys) o =
      if_not _ _ _ (no_definition d grammar.exprs_none (over_assign b at v) refl refl) (read (expr_of b l ts) _ (expr_read _ _ _ d (over_assign b at v)) (assigned (x ∷ []) at ys o))
  simple_read {ts = ts} (simple_assign {v = v} (grammar.exprs {x = x} d (grammar.exprs_more {u = u} {x = y} {xs = zs} (takes c) f more)) (takes at) ys) o =
      if_not _ _ _ (no_definition d (grammar.exprs_more (takes c) f more) (over_assign b at v) refl refl) (read (expr_of b l ts) _ (expr_read _ _ _ d (over_comma b c u))
      (if_so _ _ _ (ap not (expr_not_closing u (expr_begins f)))
      (read (more_exprs (expr_of b l) (x ∷ []) (Sign kind.Comma c ∷ u)) _ (more_exprs_read known.body_shorter (expr_of b l) expr_read (grammar.exprs_more (takes c) f more) (over_assign b at v) refl (x ∷ [])) (assigned (x ∷ y ∷ zs) at ys o))))
  simple_read (simple_define ns (takes at) xs) o = if_so _ _ _ (names_define ns refl) (defined at ns xs o)
