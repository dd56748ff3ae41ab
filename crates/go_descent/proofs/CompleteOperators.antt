-- Each expression is found: prefix operators, and chains of operators.
use Rattle.std.proofs.Common.{◌≡◌, ℕ, zero, suc, ◌<◌, List, [], ◌∷◌, ◌++◌, length, Bool, Option, Some, None, refl, sym, ap, ◌∙◌, append_assoc, append-nil, arith}
use Rattle.go_syntax.specs.declared.expression.Expr.{Expr}
use Rattle.go_cursor.specs.go_base.declared.operator.CompareOp.{CompareOp}
use Rattle.go_cursor.specs.go_base.declared.operator.ProductOperator.{ProductOperator}
use Rattle.go_cursor.specs.go_base.declared.operator.SumOperator.{SumOperator}
use Rattle.go_syntax.specs.declared.body.BodyRange.{BodyRange}
use Rattle.go_syntax.specs.declared.token.TokenKind.{TokenKind}
use Rattle.go_syntax.specs.declared.token.TokenKind.TheVariants as kind
use Rattle.go_syntax.specs.grammar.Grammar as grammar
use Rattle.go_syntax.specs.grammar.Grammar.{comparison, sum_operator, product_operator}
use Rattle.go_syntax.specs.grammar.Symbols.{Rule, takes, sign_at}
use Rattle.go_syntax.specs.grammar.Terminals.{Terminal, Sign, Extent}
use Rattle.go_cursor.specs.Reading.{Reader, Next, Stop, More, after, turn, loop, step_of}
use Rattle.go_descent.specs.Rules.{Parts, operator_at, prefixed, unary_expr, put_both, step_both, operated, operation, chain_of, after_sign, plain_chain, product_expr, sum_expr, compare_expr, and_expr, expr_of}
use Rattle.go_descent.proofs.Begins.{read, if_not, Gives, gives_stop, gives_more, runs}
use Rattle.go_descent.proofs.BeginsExpr.{primary_begins, operand_no_receive, operand_no_prefix, prefix_no_receive}
use Rattle.go_descent.specs.Follow.{Over, OverProduct, OverSum, OverCompare, OverAnd, OverExpr}
use Rattle.go_descent.proofs.CompleteParts.{CompleteParts, KnownBodies}
use Rattle.go_descent.proofs.CompletePosts.{primary_read}
use Rattle.go_descent.proofs.Shorter.{unary_shorter, product_shorter, sum_shorter, compare_shorter, and_shorter}

-- Loops over operators and operands

both_stop : {O A : Type 0} (item : List Terminal → Next (O × A)) (ops : List O) (xs : List A) (ts : List Terminal) → item ts ≡ Stop → Gives (step_both item) (ops, xs) ts (Some ((ops ++ [], xs ++ []), ts))
unfolding loop
both_stop {O} {A} item ops xs ts e zero h = λ i. Some ((sym (append-nil ops) i, sym (append-nil xs) i), ts)
both_stop {O} {A} item ops xs ts e (suc n) h = ap (λ (w : Next (O × A)). turn (loop (step_both item) n) (ops, xs) ts (put_both ops xs w)) e ∙ (λ i. Some ((sym (append-nil ops) i, sym (append-nil xs) i), ts))

both_more : {O A : Type 0} (item : List Terminal → Next (O × A)) (ops : List O) (xs : List A) (op : O) (x : A) (more : List O) (ys : List A) (ts u rest : List Terminal) → item ts ≡ More (op, x) u → length u < length ts
    → Gives (step_both item) (ops ++ op ∷ [], xs ++ x ∷ []) u (Some (((ops ++ op ∷ []) ++ more, (xs ++ x ∷ []) ++ ys), rest)) → Gives (step_both item) (ops, xs) ts (Some ((ops ++ op ∷ more, xs ++ x ∷ ys), rest))
unfolding loop
both_more item ops xs op x more ys ts u rest e shorter go zero h = absurd (omega arith)
both_more {O} {A} item ops xs op x more ys ts u rest e shorter go (suc n) h =
    ap (λ (w : Next (O × A)). turn (loop (step_both item) n) (ops, xs) ts (put_both ops xs w)) e ∙ go n (omega arith) ∙ (λ i. Some ((append_assoc ops (op ∷ []) more i, append_assoc xs (x ∷ []) ys i), rest))

operation_stops : {O : Type 0} (operator : TokenKind → Option O) (operand : Reader Expr) (ts : List Terminal) → operator_at operator (sign_at ts) ≡ None → operation operator operand ts ≡ Stop
operation_stops operator operand ts e = ap (λ o. operated operand o ts) e

operation_found : {O : Type 0} (operator : TokenKind → Option O) (operand : Reader Expr) (k : TokenKind) (at : Extent) (u v : List Terminal) (op : O) (x : Expr) → operator k ≡ Some op → operand u ≡ Some (x, v)
    → operation operator operand (Sign k at ∷ u) ≡ More (op, x) v
operation_found operator operand k at u v op x e r = ap (λ o. operated operand o (Sign k at ∷ u)) e ∙ ap after (read _ _ r refl)

-- What follows an operand before an operator

before_product : (b : Bool) (k : TokenKind) (at : Extent) (u : List Terminal) {op : ProductOperator} → product_operator k ≡ Some op → Over b (Sign k at ∷ u)
before_product b kind.Multiply at u e = record { post = refl; brace = λ _. refl }
before_product b kind.Divide at u e = record { post = refl; brace = λ _. refl }
before_product b kind.Remainder at u e = record { post = refl; brace = λ _. refl }
before_product b kind.ShiftLeft at u e = record { post = refl; brace = λ _. refl }
before_product b kind.ShiftRight at u e = record { post = refl; brace = λ _. refl }
before_product b kind.And at u e = record { post = refl; brace = λ _. refl }
before_product b kind.AndNot at u e = record { post = refl; brace = λ _. refl }
before_product b _ at u e = absurd (cc)

before_sum : (b : Bool) (k : TokenKind) (at : Extent) (u : List Terminal) {op : SumOperator} → sum_operator k ≡ Some op → OverProduct b (Sign k at ∷ u)
before_sum b kind.Add at u e = record { operand = record { post = refl; brace = λ _. refl }; operator = refl }
before_sum b kind.Subtract at u e = record { operand = record { post = refl; brace = λ _. refl }; operator = refl }
before_sum b kind.Or at u e = record { operand = record { post = refl; brace = λ _. refl }; operator = refl }
before_sum b kind.Xor at u e = record { operand = record { post = refl; brace = λ _. refl }; operator = refl }
before_sum b _ at u e = absurd (cc)

before_comparison : (b : Bool) (k : TokenKind) (at : Extent) (u : List Terminal) {op : CompareOp} → comparison k ≡ Some op → OverSum b (Sign k at ∷ u)
before_comparison b kind.Equal at u e = record { product = record { operand = record { post = refl; brace = λ _. refl }; operator = refl }; operator = refl }
before_comparison b kind.NotEqual at u e = record { product = record { operand = record { post = refl; brace = λ _. refl }; operator = refl }; operator = refl }
before_comparison b kind.Less at u e = record { product = record { operand = record { post = refl; brace = λ _. refl }; operator = refl }; operator = refl }
before_comparison b kind.LessEqual at u e = record { product = record { operand = record { post = refl; brace = λ _. refl }; operator = refl }; operator = refl }
before_comparison b kind.Greater at u e = record { product = record { operand = record { post = refl; brace = λ _. refl }; operator = refl }; operator = refl }
before_comparison b kind.GreaterEqual at u e = record { product = record { operand = record { post = refl; brace = λ _. refl }; operator = refl }; operator = refl }
before_comparison b _ at u e = absurd (cc)

before_and : (b : Bool) (at : Extent) (u : List Terminal) → OverCompare b (Sign kind.LogicalAnd at ∷ u)
before_and b at u = record { sum = record { product = record { operand = record { post = refl; brace = λ _. refl }; operator = refl }; operator = refl }; operator = refl }

before_or : (b : Bool) (at : Extent) (u : List Terminal) → OverAnd b (Sign kind.LogicalOr at ∷ u)
before_or b at u = record { comparing = record { sum = record { product = record { operand = record { post = refl; brace = λ _. refl }; operator = refl }; operator = refl }; operator = refl }; operator = refl }

module _ {Body : ℕ → Rule BodyRange} where
  over_product : {b : Bool} {h : ℕ} {ts rest : List Terminal} {ops : List ProductOperator} {xs : List Expr} → grammar.IsMoreProduct Body b h ts ops xs rest → Over b rest → Over b ts
  over_product grammar.product_none o = o
  over_product {b} (grammar.product_more {u = u} {k = k} (takes at) e d more) o = before_product b k at u e

  over_sum : {b : Bool} {h : ℕ} {ts rest : List Terminal} {ops : List SumOperator} {xs : List Expr} → grammar.IsMoreSum Body b h ts ops xs rest → OverProduct b rest → OverProduct b ts
  over_sum grammar.sum_none o = o
  over_sum {b} (grammar.sum_more {u = u} {k = k} (takes at) e d more) o = before_sum b k at u e

  over_compare : {b : Bool} {h : ℕ} {ts rest : List Terminal} {ops : List CompareOp} {xs : List Expr} → grammar.IsMoreCompare Body b h ts ops xs rest → OverSum b rest → OverSum b ts
  over_compare grammar.compare_none o = o
  over_compare {b} (grammar.compare_more {u = u} {k = k} (takes at) e d more) o = before_comparison b k at u e

  over_and : {b : Bool} {h : ℕ} {ts rest : List Terminal} {xs : List Expr} → grammar.IsMoreAnd Body b h ts xs rest → OverCompare b rest → OverCompare b ts
  over_and grammar.and_none o = o
  over_and {b} (grammar.and_more {u = u} (takes at) d more) o = before_and b at u

  over_or : {b : Bool} {h : ℕ} {ts rest : List Terminal} {xs : List Expr} → grammar.IsMoreOr Body b h ts xs rest → OverAnd b rest → OverAnd b ts
  over_or grammar.or_none o = o
  over_or {b} (grammar.or_more {u = u} (takes at) d more) o = before_or b at u

module _ {Body : ℕ → Rule BodyRange} (known : KnownBodies Body) {l : Parts} where
  pub unary_read : {n : ℕ} (p : CompleteParts Body l n) {b : Bool} {ts rest : List Terminal} {x : Expr} → grammar.IsUnary Body b n ts x rest → Over b rest → unary_expr b l ts ≡ Some (x, rest)
  unfolding unary_expr
  unary_read p {b} (grammar.unary_prefix {u = u} {k = k} (takes at) e f d) o =
      if_not _ _ _ (prefix_no_receive k at u f) (ap (λ w. prefixed b l w (Sign k at ∷ u)) e ∙ read _ _ (p.reads_unary b _ _ _ d o) refl)
  unary_read p {b} {ts} (grammar.unary_primary d) o = if_not _ _ _ (operand_no_receive (primary_begins d)) (ap (λ w. prefixed b l w ts) (operand_no_prefix (primary_begins d)) ∙ primary_read known p d o)

module _ {Body : ℕ → Rule BodyRange} (known : KnownBodies Body) {l : Parts} {n : ℕ} (p : CompleteParts Body l n) {b : Bool} where
  more_product_read : {ts rest : List Terminal} {ops : List ProductOperator} {xs : List Expr} → grammar.IsMoreProduct Body b n ts ops xs rest → OverProduct b rest → (before : List ProductOperator) (acc : List Expr)
      → Gives (step_both (operation product_operator (unary_expr b l))) (before, acc) ts (Some ((before ++ ops, acc ++ xs), rest))
  more_product_read {ts} grammar.product_none o before acc = both_stop (operation product_operator (unary_expr b l)) before acc ts (operation_stops product_operator (unary_expr b l) ts o.operator)
  more_product_read {ts} {rest} (grammar.product_more {u = u} {v = v} {k = k} {op = op} {ops = ops} {x = x} {xs = xs} (takes at) e d more) o before acc =
      both_more (operation product_operator (unary_expr b l)) before acc op x ops xs (Sign k at ∷ u) v rest (operation_found product_operator (unary_expr b l) k at u v op x e (unary_read known p d (over_product more o.operand)))
      (omega (arith, unary_shorter Body known.body_shorter d)) (more_product_read more o (before ++ op ∷ []) (acc ++ x ∷ []))

  pub product_read : {ts rest : List Terminal} {x : Expr} → grammar.IsProduct Body b n ts x rest → OverProduct b rest → product_expr b l ts ≡ Some (x, rest)
  unfolding product_expr chain_of
  product_read {rest = rest} (grammar.expr_product {u = u} {ops = ops} {xs = xs} d more) o =
      read _ _ (unary_read known p d (over_product more o.operand)) (read _ _ (runs (step_both (operation product_operator (unary_expr b l))) ([], []) u (Some ((ops, xs), rest)) (more_product_read more o [] [])) refl)

  more_sum_read : {ts rest : List Terminal} {ops : List SumOperator} {xs : List Expr} → grammar.IsMoreSum Body b n ts ops xs rest → OverSum b rest → (before : List SumOperator) (acc : List Expr)
      → Gives (step_both (operation sum_operator (product_expr b l))) (before, acc) ts (Some ((before ++ ops, acc ++ xs), rest))
  more_sum_read {ts} grammar.sum_none o before acc = both_stop (operation sum_operator (product_expr b l)) before acc ts (operation_stops sum_operator (product_expr b l) ts o.operator)
  more_sum_read {ts} {rest} (grammar.sum_more {u = u} {v = v} {k = k} {op = op} {ops = ops} {x = x} {xs = xs} (takes at) e d more) o before acc =
      both_more (operation sum_operator (product_expr b l)) before acc op x ops xs (Sign k at ∷ u) v rest (operation_found sum_operator (product_expr b l) k at u v op x e (product_read d (over_sum more o.product)))
      (omega (arith, product_shorter Body known.body_shorter d)) (more_sum_read more o (before ++ op ∷ []) (acc ++ x ∷ []))

  pub sum_read : {ts rest : List Terminal} {x : Expr} → grammar.IsSum Body b n ts x rest → OverSum b rest → sum_expr b l ts ≡ Some (x, rest)
  unfolding sum_expr chain_of
  sum_read {rest = rest} (grammar.expr_sum {u = u} {ops = ops} {xs = xs} d more) o =
      read _ _ (product_read d (over_sum more o.product)) (read _ _ (runs (step_both (operation sum_operator (product_expr b l))) ([], []) u (Some ((ops, xs), rest)) (more_sum_read more o [] [])) refl)

  more_compare_read : {ts rest : List Terminal} {ops : List CompareOp} {xs : List Expr} → grammar.IsMoreCompare Body b n ts ops xs rest → OverCompare b rest → (before : List CompareOp) (acc : List Expr)
      → Gives (step_both (operation comparison (sum_expr b l))) (before, acc) ts (Some ((before ++ ops, acc ++ xs), rest))
  more_compare_read {ts} grammar.compare_none o before acc = both_stop (operation comparison (sum_expr b l)) before acc ts (operation_stops comparison (sum_expr b l) ts o.operator)
  more_compare_read {ts} {rest} (grammar.compare_more {u = u} {v = v} {k = k} {op = op} {ops = ops} {x = x} {xs = xs} (takes at) e d more) o before acc =
      both_more (operation comparison (sum_expr b l)) before acc op x ops xs (Sign k at ∷ u) v rest (operation_found comparison (sum_expr b l) k at u v op x e (sum_read d (over_compare more o.sum)))
      (omega (arith, sum_shorter Body known.body_shorter d)) (more_compare_read more o (before ++ op ∷ []) (acc ++ x ∷ []))

  pub compare_read : {ts rest : List Terminal} {x : Expr} → grammar.IsCompare Body b n ts x rest → OverCompare b rest → compare_expr b l ts ≡ Some (x, rest)
  unfolding compare_expr chain_of
  compare_read {rest = rest} (grammar.expr_compare {u = u} {ops = ops} {xs = xs} d more) o =
      read _ _ (sum_read d (over_compare more o.sum)) (read _ _ (runs (step_both (operation comparison (sum_expr b l))) ([], []) u (Some ((ops, xs), rest)) (more_compare_read more o [] [])) refl)

  more_and_read : {ts rest : List Terminal} {xs : List Expr} → grammar.IsMoreAnd Body b n ts xs rest → OverAnd b rest → (acc : List Expr) → Gives (step_of (after_sign kind.LogicalAnd (compare_expr b l))) acc ts (Some (acc ++ xs, rest))
  more_and_read {ts} grammar.and_none o acc = gives_stop (after_sign kind.LogicalAnd (compare_expr b l)) acc ts (if_not _ _ _ o.operator refl)
  more_and_read {ts} {rest} (grammar.and_more {u = u} {v = v} {x = x} {xs = xs} (takes at) d more) o acc =
      gives_more (after_sign kind.LogicalAnd (compare_expr b l)) acc x xs (Sign kind.LogicalAnd at ∷ u) v rest (ap after (compare_read d (over_and more o.comparing)))
      (omega (arith, compare_shorter Body known.body_shorter d)) (more_and_read more o (acc ++ x ∷ []))

  pub and_read : {ts rest : List Terminal} {x : Expr} → grammar.IsAnd Body b n ts x rest → OverAnd b rest → and_expr b l ts ≡ Some (x, rest)
  unfolding and_expr plain_chain
  and_read {rest = rest} (grammar.expr_and {u = u} {xs = xs} d more) o =
      read _ _ (compare_read d (over_and more o.comparing)) (read _ _ (runs (step_of (after_sign kind.LogicalAnd (compare_expr b l))) [] u (Some (xs, rest)) (more_and_read more o [])) refl)

  more_or_read : {ts rest : List Terminal} {xs : List Expr} → grammar.IsMoreOr Body b n ts xs rest → OverExpr b rest → (acc : List Expr) → Gives (step_of (after_sign kind.LogicalOr (and_expr b l))) acc ts (Some (acc ++ xs, rest))
  more_or_read {ts} grammar.or_none o acc = gives_stop (after_sign kind.LogicalOr (and_expr b l)) acc ts (if_not _ _ _ o.operator refl)
  more_or_read {ts} {rest} (grammar.or_more {u = u} {v = v} {x = x} {xs = xs} (takes at) d more) o acc =
      gives_more (after_sign kind.LogicalOr (and_expr b l)) acc x xs (Sign kind.LogicalOr at ∷ u) v rest (ap after (and_read d (over_or more o.conjunct)))
      (omega (arith, and_shorter Body known.body_shorter d)) (more_or_read more o (acc ++ x ∷ []))

  pub expr_read : {ts rest : List Terminal} {x : Expr} → grammar.IsExpr Body b n ts x rest → OverExpr b rest → expr_of b l ts ≡ Some (x, rest)
  unfolding expr_of plain_chain
  expr_read {rest = rest} (grammar.expr_or {u = u} {xs = xs} d more) o =
      read _ _ (and_read d (over_or more o.conjunct)) (read _ _ (runs (step_of (after_sign kind.LogicalOr (and_expr b l))) [] u (Some (xs, rest)) (more_or_read more o [])) refl)
