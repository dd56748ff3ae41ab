-- Each statement that ends is read, at each height.
use Rattle.std.proofs.Common.{◌≡◌, ◌⊎◌, inl, inr, ℕ, zero, suc, Bool, true, false, if◌then◌else◌, List, [], ◌∷◌, drop, Option, Some, None, refl, sym, ap, ◌∙◌, subst}
use Rattle.go_cursor.specs.Names.{names}
use Rattle.go_cursor.specs.Reading.{Found, Reader, bind, begins_name, close, expect, name}
use Rattle.go_cursor.proofs.Steps.{taken}
use Rattle.go_descent.specs.Follow.{OverExpr}
use Rattle.go_descent.specs.Levels.{levels}
use Rattle.go_descent.specs.Rules.{expr_of, exprs, primary_expr}
use Rattle.go_descent.proofs.Begins.{read, if_so, if_not, ends_stops}
use Rattle.go_descent.proofs.BeginsExpr.{begins_expr, expr_begins}
use Rattle.go_descent.proofs.CompleteNames.{names_read}
use Rattle.go_descent.proofs.CompleteParts.{over_colon, over_semicolon}
use Rattle.go_descent.proofs.SoundParts.{no_level}
use Rattle.go_parse.proofs.CompleteDeclarations.{ends_over}
use Rattle.go_parse.specs.Declarations.{group, const_spec, var_spec}
use Rattle.go_simple_stmts.specs.SimpleStatements.{begins_definition, simple}
use Rattle.go_stmt_descent.specs.declared.headers.ForHeader.{ForHeader}
use Rattle.go_stmt_descent.specs.declared.headers.ForHeader.TheVariants as header
use Rattle.go_stmt_descent.specs.Headers.{begins_binding, begins_guard, clause_before, for_header, guard_follows, if_has_init, init, optional_before, optional_init, past_binding, switch_has_init}
use Rattle.go_stmt_descent.specs.Statements as rules
use Rattle.go_stmt_descent.specs.Statements.{Statements, begins_label, binding, block_stmt, branch_of, break_stmt, const_stmt, continue_stmt, defer_stmt, ends_stmt, flat_stmt, for_clauses, for_of, go_stmt, goto_stmt, guard_end, label, labeled, plain, range_assign, range_define, range_of, return_stmt, select_of, statements, stmt_of, switch_end, switch_of, type_switch, value_switch, var_stmt, while_of}
use Rattle.go_stmt_descent.proofs.CompleteHeaders.{First, Listed, defined_ahead, assign_header, behind_name, clause_before_reads, clause_header, condition_header, define_header, expr_no_guard, first_of, init_reads, no_binding, optional_reads, primary_is, sign_no_guard, simple_starts, statement_before_tag, tag_alone}
use Rattle.go_stmt_descent.proofs.CompleteStatements.{CompleteStatements, block_brace, block_reads, cases_read, else_none_reads, else_some_reads, if_reads, select_cases_read, type_cases_read}
use Rattle.go_stmt_descent.proofs.Follows.{behind_ends, behind_sign, ends_not_else, expr_not_brace, expr_not_semicolon, over_assign, over_brace, over_guard, sign_next, simple_brace, simple_ends, simple_semicolon}
use Rattle.go_stmt_descent.proofs.Readings.{consts_read, expr_reads, exprs_reads, primary_reads, simple_begins, simple_height, simple_reads, vars_read}
use Rattle.go_stmt_descent.proofs.SoundStatements.{IsBranch, branch_block, branch_if}
use Rattle.go_syntax.specs.declared.expression.Expr.{Expr}
use Rattle.go_syntax.specs.declared.name.Name.{Name}
use Rattle.go_syntax.specs.declared.statement.Case.{Case}
use Rattle.go_syntax.specs.declared.statement.Stmt.{Stmt}
use Rattle.go_syntax.specs.declared.statement.StmtKind.{StmtKind}
use Rattle.go_syntax.specs.declared.statement.StmtKind.TheVariants as stmt
use Rattle.go_syntax.specs.declared.statement.TypeCase.{TypeCase}
use Rattle.go_syntax.specs.declared.token.TokenKind.{TokenKind}
use Rattle.go_syntax.specs.declared.token.TokenKind.TheVariants as kind
use Rattle.go_syntax.specs.grammar.Grammar as g
use Rattle.go_syntax.specs.grammar.Grammar.{IsExpr, IsExprs, IsOptional, IsPrimary}
use Rattle.go_syntax.specs.grammar.SourceFiles.{Skips}
use Rattle.go_syntax.specs.grammar.Statements as grammar
use Rattle.go_syntax.specs.grammar.Statements.{IsBinding, IsBlock, IsCases, IsIf, IsInit, IsLabel, IsSimple, IsStmt, IsStmtKind, IsTypeCases, start_of, statement}
use Rattle.go_syntax.specs.grammar.Symbols.{Takes, takes, takes_name, Ends, ends_semicolon, ends_closing, begins, closes, sign_at}
use Rattle.go_syntax.specs.grammar.Terminals.{Extent, Terminal, Sign, Identifier, Basic, Odd}

truth_lie : {c : Bool} → c ≡ true → c ≡ false → ⊥
truth_lie t f = absurd (cc)

-- The ends of statements

closes_ends : (ts : List Terminal) → closes ts ≡ true → ends_stmt ts ≡ true
closes_ends [] e = absurd (cc)
closes_ends (Sign kind.RightParen at ∷ ts) e = refl
closes_ends (Sign kind.RightBrace at ∷ ts) e = refl
closes_ends (_ ∷ ts) e = absurd (cc)

ends_here : {ts rest : List Terminal} → Ends ts rest → ends_stmt ts ≡ true
ends_here (ends_semicolon (takes at)) = refl
ends_here {ts} (ends_closing e) = closes_ends ts e

expr_ends_not : (ts : List Terminal) → begins_expr ts ≡ true → ends_stmt ts ≡ false
expr_ends_not [] e = refl
expr_ends_not (Sign kind.Semicolon at ∷ ts) e = absurd (cc)
expr_ends_not (Sign kind.RightParen at ∷ ts) e = absurd (cc)
expr_ends_not (Sign kind.RightBrace at ∷ ts) e = absurd (cc)
expr_ends_not (_ ∷ ts) e = refl

closes_no_name : (ts : List Terminal) → closes ts ≡ true → begins_name ts ≡ false
closes_no_name [] e = refl
closes_no_name (Identifier n ∷ ts) e = absurd (cc)
closes_no_name (_ ∷ ts) e = refl

ends_no_name : {ts rest : List Terminal} → Ends ts rest → begins_name ts ≡ false
ends_no_name (ends_semicolon (takes at)) = refl
ends_no_name {ts} (ends_closing e) = closes_no_name ts e

-- Labels

label_reads : {ts rest more : List Terminal} {n : Option Name} → IsLabel ts n rest → Ends rest more → rules.label ts ≡ Some (n, rest)
unfolding label
label_reads grammar.label_none e = if_not _ _ _ (ends_no_name e) refl
label_reads (grammar.label_some takes_name) e = refl

colon_next : (ts : List Terminal) → begins kind.Colon ts ≡ true → (at : Extent) × (ts ≡ Sign kind.Colon at ∷ drop 1 ts)
colon_next ts e = sign_next (taken kind.Colon ts e)

first_no_label : (ts : List Terminal) {h : ℕ} → First true h ts → begins_label ts ≡ false
first_no_label [] f = refl
first_no_label (Sign k at ∷ w) f = refl
first_no_label (Basic l place ∷ w) f = refl
first_no_label (Odd ∷ w) f = refl
first_no_label (Identifier n ∷ w) f = by (begins kind.Colon w) refl
  where
    by : (c : Bool) → begins kind.Colon w ≡ c → c ≡ false
    by false e = refl
    by true e =
        let a = colon_next w e in
        let p : w ≡ f.rest = behind_name f.derives f.over (subst (λ (v : List Terminal). OverExpr true v) (sym a.1) (over_colon true a.0 (drop 1 w))) in
        absurd (truth_lie (ap (begins kind.Colon) (sym p) ∙ e) f.colon)

names_no_label : {ts rest : List Terminal} {ns : List Name} → g.IsNames ts ns rest → begins kind.Colon rest ≡ false → begins_label ts ≡ false
names_no_label (g.names takes_name g.names_none) e = e
names_no_label (g.names takes_name (g.names_more (takes at) m more)) e = refl

starts_no_label : {h : ℕ} {ts : List Terminal} → Listed true h ts → begins_label ts ≡ false
starts_no_label {h} {ts} (xs, u, d, o) = first_no_label ts (first_of d o)

no_label_by : {h : ℕ} {ts : List Terminal} → Listed true h ts ⊎ (begins_definition ts ≡ true) → begins_label ts ≡ false
no_label_by (inl s) = starts_no_label s
no_label_by {ts = ts} (inr e) = names_no_label (defined_ahead ts e).3 refl

no_label : {h : ℕ} {ts rest more : List Terminal} {k : StmtKind} → IsSimple Skips true (suc h) ts k rest → Ends rest more → begins_label ts ≡ false
no_label d n = no_label_by (simple_starts d (behind_ends n))

-- Statements of a keyword

module _ {h : ℕ} where
  return_reads : {ts rest more : List Terminal} {xs : List Expr} → IsExprs Skips true h ts xs rest → Ends rest more → rules.return_stmt h ts ≡ Some (stmt.Return xs, rest)
  unfolding return_stmt
  return_reads {ts} (g.exprs d more) e = if_not _ _ _ (expr_ends_not ts (expr_begins d)) (read (exprs (expr_of true (levels h)) ts) _ (exprs_reads (g.exprs d more) (ends_over e) (ends_stops e)) refl)

return_alone : (h : ℕ) {ts more : List Terminal} → Ends ts more → rules.return_stmt h ts ≡ Some (stmt.Return [], ts)
unfolding return_stmt
return_alone h e = if_so _ _ _ (ends_here e) refl

-- Statements with blocks

binding_reads : {ts rest : List Terminal} {n : Option Name} → IsBinding ts n rest → (n ≡ None → begins_binding ts ≡ false) → rules.binding ts ≡ Some (n, rest)
unfolding binding close
binding_reads grammar.binding_none f = if_not _ _ _ (f refl) refl
binding_reads (grammar.binding_some takes_name (takes at)) f = refl

module _ {h : ℕ} {s : Statements} (c : CompleteStatements h s) where
  tag_reads : (i : Option Stmt) {v w y z rest : List Terminal} {tag : Option Expr} {cs : List Case} → IsOptional Skips false h v tag w → Takes kind.LeftBrace w y → IsCases Skips h y cs z → Takes kind.RightBrace z rest
      → rules.value_switch h s i v ≡ Some (stmt.Switch i tag cs, rest)
  unfolding value_switch expect close
  tag_reads i {v} {y = y} {rest = rest} x (takes at) d (takes a) =
      read (optional_before kind.LeftBrace h v) _ (optional_reads kind.LeftBrace at expr_not_brace refl (over_brace at y) x) (read (rules.cases h s.stmt y) _ (cases_read c d refl) refl)

  tag_no_guard : {v w : List Terminal} {tag : Option Expr} (at : Extent) → IsOptional Skips false h v tag (Sign kind.LeftBrace at ∷ w) → begins_guard h v ≡ false
  tag_no_guard {w = w} at g.optional_none = sign_no_guard h kind.LeftBrace at w refl
  tag_no_guard {w = w} at (g.optional_some d) = expr_no_guard d (over_brace at w) refl refl

  switch_end_reads : (i : Option Stmt) {v w y z rest : List Terminal} {tag : Option Expr} {cs : List Case} → IsOptional Skips false h v tag w → Takes kind.LeftBrace w y → IsCases Skips h y cs z → Takes kind.RightBrace z rest
      → rules.switch_end h s i v ≡ Some (stmt.Switch i tag cs, rest)
  unfolding switch_end
  switch_end_reads i x (takes at) d k = if_not _ _ _ (tag_no_guard at x) (tag_reads i x (takes at) d k)

  -- whether a statement stands before the tag
  tag_init : {v w : List Terminal} {tag : Option Expr} (at : Extent) → IsOptional Skips false h v tag (Sign kind.LeftBrace at ∷ w) → switch_has_init h v ≡ false
  unfolding switch_has_init
  tag_init at g.optional_none = refl
  tag_init at (g.optional_some d) = tag_alone at d

  empty_init : (at : Extent) (ts : List Terminal) → switch_has_init h (Sign kind.Semicolon at ∷ ts) ≡ true
  unfolding switch_has_init if_has_init
  empty_init at ts = if_not _ _ _ (sign_no_guard h kind.Semicolon at ts refl) refl

  init_stands : {u v : List Terminal} {i : Stmt} → IsInit Skips h u (Some i) v → optional_init (switch_has_init h u) h u ≡ Some (Some i, v)
  init_stands {u} (grammar.init_empty {rest = rest} (takes at)) = ap (λ (b : Bool). optional_init b h u) (empty_init at rest) ∙ init_reads (grammar.init_empty (takes at))
  init_stands {u} {v} (grammar.init_some d (takes at)) = ap (λ (b : Bool). optional_init b h u) (statement_before_tag d (behind_sign false kind.Semicolon at v refl)) ∙ init_reads (grammar.init_some d (takes at))

  optional_init_reads : {u v : List Terminal} {i : Option Stmt} → IsInit Skips h u i v → (i ≡ None → switch_has_init h v ≡ false) → optional_init (switch_has_init h u) h u ≡ Some (i, v)
  optional_init_reads {u} grammar.init_none f = ap (λ (b : Bool). optional_init b h u) (f refl)
  optional_init_reads (grammar.init_empty t) f = init_stands (grammar.init_empty t)
  optional_init_reads (grammar.init_some d t) f = init_stands (grammar.init_some d t)

  switch_reads : {u v w y z rest : List Terminal} {i : Option Stmt} {tag : Option Expr} {cs : List Case} → IsInit Skips h u i v → IsOptional Skips false h v tag w → Takes kind.LeftBrace w y → IsCases Skips h y cs z → Takes kind.RightBrace z rest
      → rules.switch_of h s u ≡ Some (stmt.Switch i tag cs, rest)
  unfolding switch_of
  switch_reads {u} {v} {i = i} d x (takes at) cs k = read (optional_init (switch_has_init h u) h u) (rules.switch_end h s) (optional_init_reads d (λ e. tag_init at x)) (switch_end_reads i x (takes at) cs k)

  -- type switches

  guard_ahead : {v w u : List Terminal} {n : Option Name} {x : Expr} (a b o : Extent) → IsBinding v n w → IsPrimary Skips false h w x (Sign kind.Period a ∷ (Sign kind.LeftParen b ∷ (Sign kind.TypeWord o ∷ u))) → (begins_guard h v ≡ true) × (n ≡ None → begins_binding v ≡ false)
  unfolding begins_guard
  guard_ahead {v} {u = u} a b o grammar.binding_none d =
      let f = no_binding (primary_is d) (over_guard a b o u) refl in
      (ap (λ (q : Bool). guard_follows (expr_of false (levels h) (if q then drop 2 v else v))) f ∙ ap guard_follows (expr_reads (primary_is d) (over_guard a b o u)), λ e. f)
  guard_ahead {u = u} a b o (grammar.binding_some takes_name (takes at)) d = (ap guard_follows (expr_reads (primary_is d) (over_guard a b o u)), λ e. absurd (cc))

  guard_begins : {v w y : List Terminal} {n : Option Name} {x : Expr} → IsBinding v n w → IsPrimary Skips false h w x y → begins_expr v ≡ true
  guard_begins grammar.binding_none d = expr_begins (primary_is d)
  guard_begins (grammar.binding_some takes_name t) d = refl

  guard_init : {v w u : List Terminal} {n : Option Name} {x : Expr} (a b o : Extent) → IsBinding v n w → IsPrimary Skips false h w x (Sign kind.Period a ∷ (Sign kind.LeftParen b ∷ (Sign kind.TypeWord o ∷ u))) → switch_has_init h v ≡ false
  unfolding switch_has_init
  guard_init {v} a b o n d = if_not _ _ _ (expr_not_brace v (guard_begins n d)) (if_so _ _ _ (guard_ahead a b o n d).0 refl)

  type_switch_reads : (i : Option Stmt) {v w q r rest : List Terminal} {n : Option Name} {x : Expr} {cs : List TypeCase} (a b o d e : Extent) → IsBinding v n w
      → IsPrimary Skips false h w x (Sign kind.Period a ∷ (Sign kind.LeftParen b ∷ (Sign kind.TypeWord o ∷ (Sign kind.RightParen d ∷ (Sign kind.LeftBrace e ∷ q)))))
      → IsTypeCases Skips h q cs r → Takes kind.RightBrace r rest → rules.switch_end h s i v ≡ Some (stmt.TypeSwitch i n x cs, rest)
  unfolding switch_end type_switch guard_end expect close
  type_switch_reads i {v} {w} {q} a b o d e n p cs (takes k) =
      let f = guard_ahead a b o n p in
      if_so _ _ _ f.0 (read (rules.binding v) _ (binding_reads n f.1) (read (primary_expr false (levels h) w) _ (primary_reads p (over_guard a b o _).conjunct.comparing.sum.product.operand) (read (rules.type_cases h s.stmt q) _ (type_cases_read c cs refl) refl)))

  -- `for`

  condition_is : {u : List Terminal} {x : Option Expr} (at : Extent) (w : List Terminal) → IsOptional Skips false h u x (Sign kind.LeftBrace at ∷ w) → for_header h u ≡ header.Condition
  unfolding for_header
  condition_is at w g.optional_none = refl
  condition_is at w (g.optional_some d) = condition_header at d

  while_reads : {u rest : List Terminal} {x : Option Expr} {ss : List Stmt} (at : Extent) (w : List Terminal) → IsOptional Skips false h u x (Sign kind.LeftBrace at ∷ w) → s.block (Sign kind.LeftBrace at ∷ w) ≡ Some (ss, rest) → rules.for_of h s u ≡ Some (stmt.While x ss, rest)
  unfolding for_of while_of
  while_reads {u} at w d q = ap (λ (f : ForHeader). rules.for_by h s f u) (condition_is at w d) ∙ read (optional_before kind.LeftBrace h u) _ (optional_reads kind.LeftBrace at expr_not_brace refl (over_brace at w) d) (read (s.block (Sign kind.LeftBrace at ∷ w)) _ q refl)

  for_condition : {u v rest : List Terminal} {x : Option Expr} {ss : List Stmt} → IsOptional Skips false h u x v → IsBlock Skips h v ss rest → rules.for_of h s u ≡ Some (stmt.While x ss, rest)
  for_condition {u} {v} {rest} {x} {ss} d b = let k = block_brace b in while_reads k.0 k.1 (subst (λ (z : List Terminal). IsOptional Skips false h u x z) k.2 d) (subst (λ (z : List Terminal). s.block z ≡ Some (ss, rest)) k.2 (c.block v ss rest b))

  -- an expression and the block behind it
  expr_block : {y z rest : List Terminal} {x : Expr} {ss : List Stmt} (made : Expr → List Stmt → StmtKind) → IsExpr Skips false h y x z → IsBlock Skips h z ss rest → bind (expr_of false (levels h) y) (λ x z. bind (s.block z) (λ ss m. Some (made x ss, m))) ≡ Some (made x ss, rest)
  expr_block {y} {z} {rest} {x} {ss} made d b =
      let k = block_brace b in
      read (expr_of false (levels h) y) _ (expr_reads d (subst (λ (w : List Terminal). OverExpr false w) (sym k.2) (over_brace k.0 k.1))) (read (s.block z) _ (c.block z ss rest b) refl)

  for_range : {v w rest : List Terminal} {x : Expr} {ss : List Stmt} (at : Extent) → IsExpr Skips false h v x w → IsBlock Skips h w ss rest → rules.for_of h s (Sign kind.RangeWord at ∷ v) ≡ Some (stmt.Range x ss, rest)
  unfolding for_of for_header range_of expect
  for_range at d b = expr_block stmt.Range d b

  for_assign : {u y z rest : List Terminal} {xs : List Expr} {x : Expr} {ss : List Stmt} (at a : Extent) → IsExprs Skips false h u xs (Sign kind.Assign at ∷ (Sign kind.RangeWord a ∷ y)) → IsExpr Skips false h y x z → IsBlock Skips h z ss rest
      → rules.for_of h s u ≡ Some (stmt.RangeAssign xs x ss, rest)
  unfolding for_of range_assign expect
  for_assign {u} {y} {xs = xs} at a d e b =
      ap (λ (f : ForHeader). rules.for_by h s f u) (assign_header at a d (over_assign false at (Sign kind.RangeWord a ∷ y)))
      ∙ read (exprs (expr_of false (levels h)) u) _ (exprs_reads d (over_assign false at (Sign kind.RangeWord a ∷ y)) refl) (expr_block (stmt.RangeAssign xs) e b)

  for_define : {u y z rest : List Terminal} {ns : List Name} {x : Expr} {ss : List Stmt} (at a : Extent) → g.IsNames u ns (Sign kind.Define at ∷ (Sign kind.RangeWord a ∷ y)) → IsExpr Skips false h y x z → IsBlock Skips h z ss rest
      → rules.for_of h s u ≡ Some (stmt.RangeDefine ns x ss, rest)
  unfolding for_of range_define expect
  for_define {u} {ns = ns} at a d e b = ap (λ (f : ForHeader). rules.for_by h s f u) (define_header h at a d) ∙ read (names u) _ (names_read d refl) (expr_block (stmt.RangeDefine ns) e b)

  clauses_header : {u v : List Terminal} {i : Option Stmt} (at : Extent) → grammar.IsClause Skips h u i (Sign kind.Semicolon at ∷ v) → for_header h u ≡ header.Clauses
  unfolding for_header
  clauses_header at grammar.clause_none = refl
  clauses_header {v = v} at (grammar.clause_some d) = clause_header d (behind_sign false kind.Semicolon at v refl)

  clauses_read : {u w z n rest : List Terminal} {i post : Option Stmt} {x : Option Expr} {ss : List Stmt} (at a o : Extent) → grammar.IsClause Skips h u i (Sign kind.Semicolon at ∷ w) → IsOptional Skips false h w x (Sign kind.Semicolon a ∷ z)
      → grammar.IsClause Skips h z post (Sign kind.LeftBrace o ∷ n) → s.block (Sign kind.LeftBrace o ∷ n) ≡ Some (ss, rest) → rules.for_of h s u ≡ Some (stmt.For i x post ss, rest)
  unfolding for_of for_clauses expect
  clauses_read {u} {w} {z} {n} at a o ci ox cp q = ap (λ (f : ForHeader). rules.for_by h s f u) (clauses_header at ci)
      ∙ read (clause_before kind.Semicolon h u) _ (clause_before_reads kind.Semicolon at expr_not_semicolon refl (simple_semicolon false at w) ci)
      (read (optional_before kind.Semicolon h w) _ (optional_reads kind.Semicolon a expr_not_semicolon refl (over_semicolon false a z) ox)
      (read (clause_before kind.LeftBrace h z) _ (clause_before_reads kind.LeftBrace o expr_not_brace refl (simple_brace o n) cp) (read (s.block (Sign kind.LeftBrace o ∷ n)) _ q refl)))

  for_semicolons : {u w z m rest : List Terminal} {i post : Option Stmt} {x : Option Expr} {ss : List Stmt} (at a : Extent) → grammar.IsClause Skips h u i (Sign kind.Semicolon at ∷ w) → IsOptional Skips false h w x (Sign kind.Semicolon a ∷ z)
      → grammar.IsClause Skips h z post m → IsBlock Skips h m ss rest → rules.for_of h s u ≡ Some (stmt.For i x post ss, rest)
  for_semicolons {z = z} {m = m} {rest = rest} {post = post} {ss = ss} at a ci ox cp b =
      let k = block_brace b in clauses_read at a k.0 ci ox (subst (λ (y : List Terminal). grammar.IsClause Skips h z post y) k.2 cp) (subst (λ (y : List Terminal). s.block y ≡ Some (ss, rest)) k.2 (c.block m ss rest b))

  -- Statements

  label_stmt : {v rest more : List Terminal} {n : Name} {x : Stmt} (at : Extent) → IsStmt Skips h v x rest → Ends rest more → rules.plain h s (Identifier n ∷ Sign kind.Colon at ∷ v) ≡ Some (stmt.Labeled n x, rest)
  unfolding plain labeled expect
  label_stmt {v} {rest} {more} {n} {x} at d e = read (s.stmt v) _ (c.stmt v x rest more d e) refl

  simple_stmt : {ts rest more : List Terminal} {k : StmtKind} → IsSimple Skips true (suc h) ts k rest → Ends rest more → rules.plain h s ts ≡ Some (k, rest)
  unfolding plain
  simple_stmt {ts} d e = if_not _ _ _ (no_label d e) (if_not _ _ _ (expr_ends_not ts (simple_begins d)) (simple_reads d (simple_ends e)))

  -- an expression begins with no keyword and no `{`
  plain_kind : (ts : List Terminal) → begins_expr ts ≡ true → rules.kind_by h s (sign_at ts) ts ≡ rules.plain h s ts
  plain_kind [] e = refl
  plain_kind (Identifier n ∷ ts) e = refl
  plain_kind (Basic l place ∷ ts) e = refl
  plain_kind (Odd ∷ ts) e = refl
  plain_kind (Sign kind.ConstWord at ∷ ts) e = absurd (cc)
  plain_kind (Sign kind.VarWord at ∷ ts) e = absurd (cc)
  plain_kind (Sign kind.GoWord at ∷ ts) e = absurd (cc)
  plain_kind (Sign kind.DeferWord at ∷ ts) e = absurd (cc)
  plain_kind (Sign kind.ReturnWord at ∷ ts) e = absurd (cc)
  plain_kind (Sign kind.BreakWord at ∷ ts) e = absurd (cc)
  plain_kind (Sign kind.ContinueWord at ∷ ts) e = absurd (cc)
  plain_kind (Sign kind.GotoWord at ∷ ts) e = absurd (cc)
  plain_kind (Sign kind.FallthroughWord at ∷ ts) e = absurd (cc)
  plain_kind (Sign kind.LeftBrace at ∷ ts) e = absurd (cc)
  plain_kind (Sign kind.IfWord at ∷ ts) e = absurd (cc)
  plain_kind (Sign kind.SwitchWord at ∷ ts) e = absurd (cc)
  plain_kind (Sign kind.SelectWord at ∷ ts) e = absurd (cc)
  plain_kind (Sign kind.ForWord at ∷ ts) e = absurd (cc)
  plain_kind (Sign _ at ∷ ts) e = refl

  empty_before : (us : List Terminal) → closes us ≡ true → rules.kind_by h s (sign_at us) us ≡ Some (stmt.Empty, us)
  unfolding plain
  empty_before [] e = absurd (cc)
  empty_before (Sign kind.RightParen at ∷ us) e = refl
  empty_before (Sign kind.RightBrace at ∷ us) e = refl
  empty_before (_ ∷ us) e = absurd (cc)

  empty_stmt : {ts more : List Terminal} → Ends ts more → rules.kind_by h s (sign_at ts) ts ≡ Some (stmt.Empty, ts)
  unfolding plain
  empty_stmt (ends_semicolon (takes at)) = refl
  empty_stmt {ts} (ends_closing e) = empty_before ts e

  if_kind : {ts rest more : List Terminal} {k : StmtKind} → IsIf Skips (suc h) ts k rest → Ends rest more → (at : Extent) × (u : List Terminal) × (ts ≡ Sign kind.IfWord at ∷ u) × (rules.if_of h s u ≡ Some (k, rest))
  if_kind {rest = rest} (grammar.if_alone {u = u} (takes at) i x b) e = (at, u, refl, if_reads c i x b (else_none_reads c rest (ends_not_else e)))
  if_kind (grammar.if_else_if {u = u} (takes at) i x b (takes a) d) e = (at, u, refl, if_reads c i x b (else_some_reads c a (branch_if d) e))
  if_kind (grammar.if_else {u = u} (takes at) i x b (takes a) d) e = (at, u, refl, if_reads c i x b (else_some_reads c a (branch_block d) e))

  block_kind : {ts rest : List Terminal} {ss : List Stmt} → IsBlock Skips (suc h) ts ss rest → rules.block_stmt s ts ≡ Some (stmt.Block ss, rest)
  unfolding block_stmt
  block_kind {ts} d = read (rules.block_of s.stmt ts) _ (block_reads c d) refl

  kind_reads : {ts rest more : List Terminal} {k : StmtKind} → IsStmtKind Skips (suc h) ts k rest → Ends rest more → rules.kind_by h s (sign_at ts) ts ≡ Some (k, rest)
  unfolding const_stmt var_stmt go_stmt defer_stmt break_stmt continue_stmt goto_stmt switch_of select_of expect close
  kind_reads grammar.stmt_empty e = empty_stmt e
  kind_reads {ts} (grammar.stmt_simple d) e = plain_kind ts (simple_begins d) ∙ simple_stmt d e
  kind_reads (grammar.stmt_const {u = u} (takes at) d) e = read (group (const_spec (levels (suc h))) u) _ (consts_read d e) refl
  kind_reads (grammar.stmt_var {u = u} (takes at) d) e = read (group (var_spec (levels (suc h))) u) _ (vars_read d e) refl
  kind_reads (grammar.stmt_labeled takes_name (takes at) d) e = label_stmt at d e
  kind_reads (grammar.stmt_go {u = u} (takes at) d) e = read (expr_of true (levels h) u) _ (expr_reads d (ends_over e)) refl
  kind_reads (grammar.stmt_defer {u = u} (takes at) d) e = read (expr_of true (levels h) u) _ (expr_reads d (ends_over e)) refl
  kind_reads (grammar.stmt_return_none (takes at)) e = return_alone h e
  kind_reads (grammar.stmt_return (takes at) d) e = return_reads d e
  kind_reads (grammar.stmt_break {u = u} (takes at) d) e = read (rules.label u) _ (label_reads d e) refl
  kind_reads {rest = rest} (grammar.stmt_break_alone (takes at)) e = read (rules.label rest) _ (label_reads grammar.label_none e) refl
  kind_reads (grammar.stmt_continue {u = u} (takes at) d) e = read (rules.label u) _ (label_reads d e) refl
  kind_reads {rest = rest} (grammar.stmt_continue_alone (takes at)) e = read (rules.label rest) _ (label_reads grammar.label_none e) refl
  kind_reads (grammar.stmt_goto (takes at) takes_name) e = refl
  kind_reads (grammar.stmt_fallthrough (takes at)) e = refl
  kind_reads (grammar.stmt_block (grammar.block_of (takes at) d k)) e = block_kind (grammar.block_of (takes at) d k)
  kind_reads {ts} {rest} {k = k} (grammar.stmt_if d) e = let i = if_kind d e in subst (λ (w : List Terminal). rules.kind_by h s (sign_at w) w ≡ Some (k, rest)) (sym i.2) i.3
  kind_reads (grammar.stmt_switch (takes at) i x (takes a) cs b) e = switch_reads i x (takes a) cs b
  kind_reads (grammar.stmt_type_switch {u = u} {init = init} (takes at) i n p (takes a) (takes b) (takes o) (takes d) (takes f) cs k) e =
      read (optional_init (switch_has_init h u) h u) (rules.switch_end h s) (optional_init_reads i (λ q. guard_init a b o n p)) (type_switch_reads init a b o d f n p cs k)
  kind_reads (grammar.stmt_select {v = v} (takes at) (takes a) cs (takes b)) e = read (rules.select_cases h s.stmt v) _ (select_cases_read c cs refl) refl
  kind_reads (grammar.stmt_while (takes at) x b) e = for_condition x b
  kind_reads (grammar.stmt_for (takes at) i (takes a) x (takes b) p d) e = for_semicolons a b i x p d
  kind_reads (grammar.stmt_range (takes at) (takes a) x b) e = for_range a x b
  kind_reads (grammar.stmt_range_assign (takes at) xs (takes a) (takes o) x b) e = for_assign a o xs x b
  kind_reads (grammar.stmt_range_define (takes at) ns (takes a) (takes o) x b) e = for_define a o ns x b

  stmt_reads : {ts rest more : List Terminal} {x : Stmt} → IsStmt Skips (suc h) ts x rest → Ends rest more → rules.stmt_of h s ts ≡ Some (x, rest)
  unfolding stmt_of
  stmt_reads {ts} (grammar.stmt_at d) e = read (rules.kind_by h s (sign_at ts) ts) _ (kind_reads d e) refl

  if_branch : (u : List Terminal) {rest : List Terminal} {k : StmtKind} (at : Extent) → rules.if_of h s u ≡ Some (k, rest) → rules.branch_of h s (Sign kind.IfWord at ∷ u) ≡ Some (statement at.0 k, rest)
  unfolding branch_of
  if_branch u at q = read (rules.if_of h s u) _ q refl

  branch_reads : {ts rest more : List Terminal} {x : Stmt} → IsBranch (suc h) ts x rest → Ends rest more → rules.branch_of h s ts ≡ Some (x, rest)
  unfolding branch_of
  branch_reads {ts} {rest} (branch_if {k = k} d) e = let i = if_kind d e in subst (λ (w : List Terminal). rules.branch_of h s w ≡ Some (statement (start_of w) k, rest)) (sym i.2) (if_branch i.1 i.0 i.3)
  branch_reads (branch_block (grammar.block_of (takes at) d k)) e = read (rules.block_stmt s (Sign kind.LeftBrace at ∷ _)) _ (block_kind (grammar.block_of (takes at) d k)) refl

-- Heights

no_simple : {b : Bool} {ts rest : List Terminal} {k : StmtKind} → IsSimple Skips b 0 ts k rest → ⊥
no_simple d = let s = simple_height d in no_level (s.0, s.1)

block_height : {n : ℕ} {ts rest : List Terminal} {ss : List Stmt} → IsBlock Skips n ts ss rest → (h : ℕ) × (n ≡ suc h)
block_height (grammar.block_of {h = h} a b c) = (h, refl)

if_height : {n : ℕ} {ts rest : List Terminal} {k : StmtKind} → IsIf Skips n ts k rest → (h : ℕ) × (n ≡ suc h)
if_height (grammar.if_alone {h = h} a b c d) = (h, refl)
if_height (grammar.if_else_if {h = h} a b c d e f) = (h, refl)
if_height (grammar.if_else {h = h} a b c d e f) = (h, refl)

no_block : {ts rest : List Terminal} {ss : List Stmt} → IsBlock Skips 0 ts ss rest → ⊥
no_block d = no_level (block_height d)

no_if : {ts rest : List Terminal} {k : StmtKind} → IsIf Skips 0 ts k rest → ⊥
no_if d = no_level (if_height d)

branch_height : {n : ℕ} {ts rest : List Terminal} {x : Stmt} → IsBranch n ts x rest → (h : ℕ) × (n ≡ suc h)
branch_height (branch_if d) = if_height d
branch_height (branch_block d) = block_height d

no_branch : {ts rest : List Terminal} {x : Stmt} → IsBranch 0 ts x rest → ⊥
no_branch d = no_level (branch_height d)

flat_before : (us : List Terminal) → closes us ≡ true → rules.flat_by (sign_at us) us ≡ Some (stmt.Empty, us)
flat_before [] e = absurd (cc)
flat_before (Sign kind.RightParen at ∷ us) e = refl
flat_before (Sign kind.RightBrace at ∷ us) e = refl
flat_before (_ ∷ us) e = absurd (cc)

flat_empty : {ts more : List Terminal} → Ends ts more → rules.flat_by (sign_at ts) ts ≡ Some (stmt.Empty, ts)
flat_empty (ends_semicolon (takes at)) = refl
flat_empty {ts} (ends_closing e) = flat_before ts e

flat_reads : {ts rest more : List Terminal} {k : StmtKind} → IsStmtKind Skips 0 ts k rest → Ends rest more → rules.flat_by (sign_at ts) ts ≡ Some (k, rest)
flat_reads grammar.stmt_empty e = flat_empty e
flat_reads (grammar.stmt_simple d) e = absurd (no_simple d)
flat_reads (grammar.stmt_return_none (takes at)) e = refl
flat_reads (grammar.stmt_break_alone (takes at)) e = refl
flat_reads (grammar.stmt_continue_alone (takes at)) e = refl
flat_reads (grammar.stmt_fallthrough (takes at)) e = refl
flat_reads (grammar.stmt_block d) e = absurd (no_block d)
flat_reads (grammar.stmt_if d) e = absurd (no_if d)

flat_stmt_reads : {ts rest more : List Terminal} {x : Stmt} → IsStmt Skips 0 ts x rest → Ends rest more → rules.flat_stmt ts ≡ Some (x, rest)
unfolding flat_stmt
flat_stmt_reads {ts} (grammar.stmt_at d) e = read (rules.flat_by (sign_at ts) ts) _ (flat_reads d e) refl

pub statements_read : (h : ℕ) → CompleteStatements h (rules.statements h)
unfolding statements
statements_read zero = record { stmt = λ ts x rest more d e. flat_stmt_reads d e; block = λ ts ss rest d. absurd (no_block d); branches = λ ts x rest more d e. absurd (no_branch d) }
statements_read (suc h) = record {
  stmt = λ ts x rest more d e. stmt_reads (statements_read h) d e;
  block = λ ts ss rest d. block_reads (statements_read h) d;
  branches = λ ts x rest more d e. branch_reads (statements_read h) d e;
}
