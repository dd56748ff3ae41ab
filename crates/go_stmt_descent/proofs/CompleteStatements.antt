-- Each statement that ends, each block and each clause is read.
use Rattle.std.proofs.Common.{◌≡◌, ◌≢◌, ℕ, zero, suc, ◌≤◌, ◌<◌, Bool, true, false, if◌then◌else◌, List, [], ◌∷◌, ◌++◌, length, drop, Option, Some, None, refl, sym, ap, ◌∙◌, subst, arith}
use Rattle.go_cursor.specs.Names.{names}
use Rattle.go_cursor.specs.Reading.{Found, Reader, Next, More, Stop, after, bind, begins_name, close, ended, expect, name, run, step_of}
use Rattle.go_cursor.proofs.Runs.{run_shorter}
use Rattle.go_cursor.proofs.Steps.{taken}
use Rattle.go_descent.specs.Follow.{OverExpr}
use Rattle.go_descent.specs.Levels.{levels}
use Rattle.go_descent.specs.Rules.{expr_of, exprs, primary_expr, typ_of}
use Rattle.go_descent.proofs.Balanced.{exprs_run, type_run}
use Rattle.go_descent.proofs.BalancedStatements.{communication_run, more_types_run, stmt_run, stmts_run}
use Rattle.go_descent.proofs.Begins.{read, if_so, if_not, Gives, gives_stop, gives_more, runs, ends_here, ends_stops, type_begins}
use Rattle.go_descent.proofs.BeginsExpr.{begins_expr, expr_begins}
use Rattle.go_descent.proofs.Bodies.{skips_balance, skips_known}
use Rattle.go_descent.proofs.CompleteNames.{names_read}
use Rattle.go_descent.proofs.CompleteParts.{over_colon, over_semicolon}
use Rattle.go_descent.proofs.Shorter.{ends_shorter, type_shorter, skipped_shorter}
use Rattle.go_parse.proofs.CompleteDeclarations.{ends_over}
use Rattle.go_parse.specs.Declarations.{group, const_spec, var_spec}
use Rattle.go_stmt_descent.specs.Communications.{communication_at}
use Rattle.go_stmt_descent.specs.declared.headers.ForHeader.{ForHeader}
use Rattle.go_stmt_descent.specs.declared.headers.ForHeader.TheVariants as header
use Rattle.go_stmt_descent.specs.Headers.{begins_binding, begins_guard, clause_before, for_header, if_has_init, init, optional_before, optional_init, switch_has_init}
use Rattle.go_stmt_descent.specs.Statements as rules
use Rattle.go_stmt_descent.specs.Statements.{Statements, begins_label, block_of, case_item, cases, clause_body, communication_case, default_case, default_select_case, default_type_case, else_of, ends_stmt, if_of, select_case_item, select_cases, stmt_item, stmts, stops, type_case_item, type_cases, types, types_case, values_case}
use Rattle.go_stmt_descent.proofs.CompleteCommunications.{communication_reads}
use Rattle.go_stmt_descent.proofs.CompleteHeaders.{assign_header, clause_before_reads, clause_header, condition_alone, condition_header, define_header, init_reads, optional_reads, sign_no_guard, statement_before_tag, statement_first, tag_alone}
use Rattle.go_stmt_descent.proofs.Follows.{behind_sign, ends_not_else, expr_not_brace, expr_not_semicolon, over_brace, over_assign, simple_brace, simple_ends, simple_semicolon}
use Rattle.go_stmt_descent.proofs.Readings.{consts_read, expr_reads, exprs_reads, primary_reads, simple_begins, simple_height, simple_reads, type_reads, vars_read}
use Rattle.go_stmt_descent.proofs.SoundStatements.{IsBranch, branch_block, branch_if}
use Rattle.go_syntax.specs.declared.expression.Expr.{Expr}
use Rattle.go_syntax.specs.declared.name.Name.{Name}
use Rattle.go_syntax.specs.declared.statement.Case.{Case}
use Rattle.go_syntax.specs.declared.statement.SelectCase.{SelectCase}
use Rattle.go_syntax.specs.declared.statement.Stmt.{Stmt}
use Rattle.go_syntax.specs.declared.statement.StmtKind.{StmtKind}
use Rattle.go_syntax.specs.declared.statement.StmtKind.TheVariants as stmt
use Rattle.go_syntax.specs.declared.statement.TypeCase.{TypeCase}
use Rattle.go_syntax.specs.declared.types.«Type».{«Type» as Typ}
use Rattle.go_syntax.specs.declared.token.TokenKind.{TokenKind}
use Rattle.go_syntax.specs.declared.token.TokenKind.TheVariants as kind
use Rattle.go_syntax.specs.grammar.Brackets.{IsRun, run_none, run_plain, run_nest}
use Rattle.go_syntax.specs.grammar.Grammar as g
use Rattle.go_syntax.specs.grammar.Grammar.{IsExpr, IsExprs, IsType}
use Rattle.go_syntax.specs.grammar.SourceFiles.{Skips}
use Rattle.go_syntax.specs.grammar.Statements as grammar
use Rattle.go_syntax.specs.grammar.Statements.{IsBinding, IsBlock, IsCases, IsIf, IsInit, IsLabel, IsMoreTypes, IsSelectCases, IsSimple, IsStmt, IsStmtKind, IsStmts, IsTypeCases, start_of, statement}
use Rattle.go_syntax.specs.grammar.Symbols.{Rule, Takes, takes, takes_name, Ends, ends_semicolon, ends_closing, begins, closes, sign_at}
use Rattle.go_syntax.specs.grammar.Terminals.{Extent, Terminal, Sign, Identifier, Basic, Odd}

truth_lie : {c : Bool} → c ≡ true → c ≡ false → ⊥
truth_lie t f = absurd (cc)

-- the readers find what has at most this height
pub record CompleteStatements (h : ℕ) (s : Statements) : Type 0 where
  pub stmt : (ts : List Terminal) (x : Stmt) (rest more : List Terminal) → IsStmt Skips h ts x rest → Ends rest more → s.stmt ts ≡ Some (x, rest)
  pub block : (ts : List Terminal) (ss : List Stmt) (rest : List Terminal) → IsBlock Skips h ts ss rest → s.block ts ≡ Some (ss, rest)
  pub branches : (ts : List Terminal) (x : Stmt) (rest more : List Terminal) → IsBranch h ts x rest → Ends rest more → s.branch ts ≡ Some (x, rest)

-- What begins a statement

-- an empty one alone can begin where a list ends
data Opens : List Terminal → List Terminal → Type 0 where
  opens_not : {ts rest : List Terminal} → stops ts ≡ false → Opens ts rest
  opens_empty : {ts : List Terminal} → Opens ts ts

expr_opens : (ts : List Terminal) → begins_expr ts ≡ true → stops ts ≡ false
expr_opens [] e = refl
expr_opens (Sign kind.RightParen at ∷ ts) e = absurd (cc)
expr_opens (Sign kind.RightBrace at ∷ ts) e = absurd (cc)
expr_opens (Sign kind.CaseWord at ∷ ts) e = absurd (cc)
expr_opens (Sign kind.DefaultWord at ∷ ts) e = absurd (cc)
expr_opens (_ ∷ ts) e = refl

block_opens : {h : ℕ} {ts rest : List Terminal} {ss : List Stmt} → IsBlock Skips h ts ss rest → stops ts ≡ false
block_opens (grammar.block_of (takes at) d c) = refl

if_opens : {h : ℕ} {ts rest : List Terminal} {k : StmtKind} → IsIf Skips h ts k rest → stops ts ≡ false
if_opens (grammar.if_alone (takes at) b c d) = refl
if_opens (grammar.if_else_if (takes at) b c d e f) = refl
if_opens (grammar.if_else (takes at) b c d e f) = refl

kind_opens : {h : ℕ} {ts rest : List Terminal} {k : StmtKind} → IsStmtKind Skips h ts k rest → Opens ts rest
kind_opens grammar.stmt_empty = opens_empty
kind_opens {ts = ts} (grammar.stmt_simple d) = opens_not (expr_opens ts (simple_begins d))
kind_opens (grammar.stmt_const (takes at) a) = opens_not refl
kind_opens (grammar.stmt_var (takes at) a) = opens_not refl
kind_opens (grammar.stmt_labeled takes_name a b) = opens_not refl
kind_opens (grammar.stmt_go (takes at) a) = opens_not refl
kind_opens (grammar.stmt_defer (takes at) a) = opens_not refl
kind_opens (grammar.stmt_return_none (takes at)) = opens_not refl
kind_opens (grammar.stmt_return (takes at) a) = opens_not refl
kind_opens (grammar.stmt_break (takes at) a) = opens_not refl
kind_opens (grammar.stmt_break_alone (takes at)) = opens_not refl
kind_opens (grammar.stmt_continue (takes at) a) = opens_not refl
kind_opens (grammar.stmt_continue_alone (takes at)) = opens_not refl
kind_opens (grammar.stmt_goto (takes at) a) = opens_not refl
kind_opens (grammar.stmt_fallthrough (takes at)) = opens_not refl
kind_opens (grammar.stmt_block a) = opens_not (block_opens a)
kind_opens (grammar.stmt_if a) = opens_not (if_opens a)
kind_opens (grammar.stmt_switch (takes at) b c d e f) = opens_not refl
kind_opens (grammar.stmt_type_switch (takes at) b c d e f i j k l m) = opens_not refl
kind_opens (grammar.stmt_select (takes at) b c d) = opens_not refl
kind_opens (grammar.stmt_while (takes at) b c) = opens_not refl
kind_opens (grammar.stmt_for (takes at) b c d e f i) = opens_not refl
kind_opens (grammar.stmt_range (takes at) b c d) = opens_not refl
kind_opens (grammar.stmt_range_assign (takes at) b c d e f) = opens_not refl
kind_opens (grammar.stmt_range_define (takes at) b c d e f) = opens_not refl

stmt_opens : {h : ℕ} {ts rest : List Terminal} {x : Stmt} → IsStmt Skips h ts x rest → Opens ts rest
stmt_opens (grammar.stmt_at d) = kind_opens d

semicolon_opens : {ts u v : List Terminal} → Opens ts u → Takes kind.Semicolon u v → stops ts ≡ false
semicolon_opens (opens_not e) t = e
semicolon_opens opens_empty (takes at) = refl

last_opens : {ts rest : List Terminal} → Opens ts rest → ts ≢ rest → stops ts ≡ false
last_opens (opens_not e) n = e
last_opens opens_empty n = absurd (n refl)

-- a run that isn't empty is shorter behind its end
run_apart : {ts rest : List Terminal} → IsRun ts rest → ts ≢ rest → length rest < length ts
run_apart run_none n = absurd (n refl)
run_apart (run_plain e r) n = omega (arith, run_shorter r)
run_apart (run_nest at end e r s) n = omega (arith, run_shorter r, run_shorter s)

-- the brace that a block begins with
pub block_brace : {h : ℕ} {ts rest : List Terminal} {ss : List Stmt} → IsBlock Skips h ts ss rest → (at : Extent) × (u : List Terminal) × (ts ≡ Sign kind.LeftBrace at ∷ u)
block_brace (grammar.block_of {u = u} (takes at) d k) = (at, u, refl)

-- Lists

closing_stops : (ts : List Terminal) → closes ts ≡ true → stops ts ≡ true
closing_stops ts e = if_so _ _ _ e refl

brace_stops : {ts us : List Terminal} → Takes kind.RightBrace ts us → stops ts ≡ true
brace_stops (takes at) = refl

no_case : (h : ℕ) (stmt : Reader Stmt) {ts us : List Terminal} → Takes kind.RightBrace ts us → rules.case_item h stmt ts ≡ Stop
unfolding case_item
no_case h stmt (takes at) = refl

no_type_case : (h : ℕ) (stmt : Reader Stmt) {ts us : List Terminal} → Takes kind.RightBrace ts us → rules.type_case_item h stmt ts ≡ Stop
unfolding type_case_item
no_type_case h stmt (takes at) = refl

no_select_case : (h : ℕ) (stmt : Reader Stmt) {ts us : List Terminal} → Takes kind.RightBrace ts us → rules.select_case_item h stmt ts ≡ Stop
unfolding select_case_item
no_select_case h stmt (takes at) = refl

module _ {h : ℕ} {s : Statements} (c : CompleteStatements h s) where
  item_reads : {ts u v : List Terminal} {x : Stmt} → stops ts ≡ false → IsStmt Skips h ts x u → Ends u v → rules.stmt_item s.stmt ts ≡ More x v
  unfolding stmt_item
  item_reads {ts} {u} {v} {x} o d e = if_not _ _ _ o (ap after (read (s.stmt ts) ended (c.stmt ts x u v d e) (ends_here x e)))

  item_stops : (ts : List Terminal) → stops ts ≡ true → rules.stmt_item s.stmt ts ≡ Stop
  unfolding stmt_item
  item_stops ts e = if_so _ _ _ e refl

  stmts_give : {ts rest : List Terminal} {ss : List Stmt} → IsStmts Skips h ts ss rest → stops rest ≡ true → (acc : List Stmt) → Gives (step_of (rules.stmt_item s.stmt)) acc ts (Some (acc ++ ss, rest))
  stmts_give {ts} grammar.stmts_none e acc = gives_stop (rules.stmt_item s.stmt) acc ts (item_stops ts e)
  stmts_give {ts} {rest} (grammar.stmts_more {u = u} {v = v} {s = x} {ss = ss} d (takes at) more) e acc =
      gives_more (rules.stmt_item s.stmt) acc x ss ts v rest (item_reads (semicolon_opens (stmt_opens d) (takes at)) d (ends_semicolon (takes at))) (omega (arith, run_shorter (stmt_run skips_balance d))) (stmts_give more e (acc ++ x ∷ []))
  stmts_give {ts} {rest} (grammar.stmts_last {s = x} d n k) e acc =
      gives_more (rules.stmt_item s.stmt) acc x [] ts rest rest (item_reads (last_opens (stmt_opens d) n) d (ends_closing k)) (run_apart (stmt_run skips_balance d) n)
      (gives_stop (rules.stmt_item s.stmt) (acc ++ x ∷ []) rest (item_stops rest e))

  pub stmts_read : {ts rest : List Terminal} {ss : List Stmt} → IsStmts Skips h ts ss rest → stops rest ≡ true → rules.stmts s.stmt ts ≡ Some (ss, rest)
  unfolding stmts
  stmts_read {ts} {rest} {ss} d e = runs (step_of (rules.stmt_item s.stmt)) [] ts (Some (ss, rest)) (stmts_give d e [])

  pub block_reads : {ts rest : List Terminal} {ss : List Stmt} → IsBlock Skips (suc h) ts ss rest → rules.block_of s.stmt ts ≡ Some (ss, rest)
  unfolding block_of expect close
  block_reads (grammar.block_of {u = u} (takes at) d (takes a)) = read (rules.stmts s.stmt u) _ (stmts_read d refl) refl

  body_reads : {ts rest : List Terminal} {ss : List Stmt} (at : Extent) → IsStmts Skips h ts ss rest → stops rest ≡ true → rules.clause_body s.stmt (Sign kind.Colon at ∷ ts) ≡ Some (ss, rest)
  unfolding clause_body expect
  body_reads at d e = stmts_read d e

  -- Clauses

  case_stops : {ts rest : List Terminal} {cs : List Case} → IsCases Skips h ts cs rest → begins kind.RightBrace rest ≡ true → stops ts ≡ true
  case_stops {ts} grammar.cases_none e = brace_stops (taken kind.RightBrace ts e)
  case_stops (grammar.cases_values (takes at) a b d f) e = refl
  case_stops (grammar.cases_default (takes at) a b d) e = refl

  cases_give : {ts rest : List Terminal} {cs : List Case} → IsCases Skips h ts cs rest → begins kind.RightBrace rest ≡ true → (acc : List Case) → Gives (step_of (rules.case_item h s.stmt)) acc ts (Some (acc ++ cs, rest))
  unfolding case_item values_case default_case
  cases_give {ts} grammar.cases_none e acc = gives_stop (rules.case_item h s.stmt) acc ts (no_case h s.stmt (taken kind.RightBrace ts e))
  cases_give {ts} {rest} (grammar.cases_values {u = u} {w = w} {y = y} {xs = xs} {ss = ss} {more = more} (takes at) d (takes a) b ds) e acc =
      gives_more (rules.case_item h s.stmt) acc (rules.a_case (Some xs) ss) more ts y rest
      (ap after (read (exprs (expr_of true (levels h)) u) _ (exprs_reads d (over_colon true a w) refl) (read (rules.clause_body s.stmt (Sign kind.Colon a ∷ w)) _ (body_reads a b (case_stops ds e)) refl)))
      (omega (arith, run_shorter (exprs_run skips_balance d), run_shorter (stmts_run skips_balance b))) (cases_give ds e (acc ++ rules.a_case (Some xs) ss ∷ []))
  cases_give {ts} {rest} (grammar.cases_default {v = v} {w = w} {ss = ss} {more = more} (takes at) (takes a) b ds) e acc =
      gives_more (rules.case_item h s.stmt) acc (rules.a_case None ss) more ts w rest
      (ap after (read (rules.clause_body s.stmt (Sign kind.Colon a ∷ v)) _ (body_reads a b (case_stops ds e)) refl))
      (omega (arith, run_shorter (stmts_run skips_balance b))) (cases_give ds e (acc ++ rules.a_case None ss ∷ []))

  pub cases_read : {ts rest : List Terminal} {cs : List Case} → IsCases Skips h ts cs rest → begins kind.RightBrace rest ≡ true → rules.cases h s.stmt ts ≡ Some (cs, rest)
  unfolding cases
  cases_read {ts} {rest} {cs} d e = runs (step_of (rules.case_item h s.stmt)) [] ts (Some (cs, rest)) (cases_give d e [])

  types_give : {ts rest : List Terminal} {xs : List Typ} → IsMoreTypes Skips h ts xs rest → begins kind.Comma rest ≡ false → (acc : List Typ) → Gives (step_of (rules.type_item h)) acc ts (Some (acc ++ xs, rest))
  types_give {ts} grammar.types_none e acc = gives_stop (rules.type_item h) acc ts (if_not _ _ _ e refl)
  types_give {ts} {rest} (grammar.types_more {u = u} {v = v} {t = t} {more = more} (takes at) d ds) e acc =
      gives_more (rules.type_item h) acc t more ts v rest (ap after (type_reads d)) (omega (arith, run_shorter (type_run skips_balance d))) (types_give ds e (acc ++ t ∷ []))

  types_read : {ts u rest : List Terminal} {t : Typ} {xs : List Typ} → IsType Skips h ts t u → IsMoreTypes Skips h u xs rest → begins kind.Comma rest ≡ false → rules.types h ts ≡ Some (t ∷ xs, rest)
  unfolding types
  types_read {ts} {u} {rest} {t} {xs} d ds e = read (typ_of (levels h) ts) _ (type_reads d) (runs (step_of (rules.type_item h)) (t ∷ []) u (Some (t ∷ xs, rest)) (types_give ds e (t ∷ [])))

  type_case_stops : {ts rest : List Terminal} {cs : List TypeCase} → IsTypeCases Skips h ts cs rest → begins kind.RightBrace rest ≡ true → stops ts ≡ true
  type_case_stops {ts} grammar.type_cases_none e = brace_stops (taken kind.RightBrace ts e)
  type_case_stops (grammar.type_cases_types (takes at) a b d f k) e = refl
  type_case_stops (grammar.type_cases_default (takes at) a b d) e = refl

  type_cases_give : {ts rest : List Terminal} {cs : List TypeCase} → IsTypeCases Skips h ts cs rest → begins kind.RightBrace rest ≡ true → (acc : List TypeCase) → Gives (step_of (rules.type_case_item h s.stmt)) acc ts (Some (acc ++ cs, rest))
  unfolding type_case_item types_case default_type_case
  type_cases_give {ts} grammar.type_cases_none e acc = gives_stop (rules.type_case_item h s.stmt) acc ts (no_type_case h s.stmt (taken kind.RightBrace ts e))
  type_cases_give {ts} {rest} (grammar.type_cases_types {u = u} {w = w} {y = y} {z = z} {t = t} {types = types} {ss = ss} {more = more} (takes at) d ds (takes a) b cs) e acc =
      gives_more (rules.type_case_item h s.stmt) acc (rules.a_type_case (Some (t ∷ types)) ss) more ts z rest
      (ap after (read (rules.types h u) _ (types_read d ds refl) (read (rules.clause_body s.stmt (Sign kind.Colon a ∷ y)) _ (body_reads a b (type_case_stops cs e)) refl)))
      (omega (arith, run_shorter (type_run skips_balance d), run_shorter (more_types_run skips_balance ds), run_shorter (stmts_run skips_balance b))) (type_cases_give cs e (acc ++ rules.a_type_case (Some (t ∷ types)) ss ∷ []))
  type_cases_give {ts} {rest} (grammar.type_cases_default {v = v} {w = w} {ss = ss} {more = more} (takes at) (takes a) b cs) e acc =
      gives_more (rules.type_case_item h s.stmt) acc (rules.a_type_case None ss) more ts w rest
      (ap after (read (rules.clause_body s.stmt (Sign kind.Colon a ∷ v)) _ (body_reads a b (type_case_stops cs e)) refl))
      (omega (arith, run_shorter (stmts_run skips_balance b))) (type_cases_give cs e (acc ++ rules.a_type_case None ss ∷ []))

  pub type_cases_read : {ts rest : List Terminal} {cs : List TypeCase} → IsTypeCases Skips h ts cs rest → begins kind.RightBrace rest ≡ true → rules.type_cases h s.stmt ts ≡ Some (cs, rest)
  unfolding type_cases
  type_cases_read {ts} {rest} {cs} d e = runs (step_of (rules.type_case_item h s.stmt)) [] ts (Some (cs, rest)) (type_cases_give d e [])

  select_case_stops : {ts rest : List Terminal} {cs : List SelectCase} → IsSelectCases Skips h ts cs rest → begins kind.RightBrace rest ≡ true → stops ts ≡ true
  select_case_stops {ts} grammar.select_cases_none e = brace_stops (taken kind.RightBrace ts e)
  select_case_stops (grammar.select_cases_communication (takes at) a b d f) e = refl
  select_case_stops (grammar.select_cases_default (takes at) a b d) e = refl

  select_cases_give : {ts rest : List Terminal} {cs : List SelectCase} → IsSelectCases Skips h ts cs rest → begins kind.RightBrace rest ≡ true → (acc : List SelectCase) → Gives (step_of (rules.select_case_item h s.stmt)) acc ts (Some (acc ++ cs, rest))
  unfolding select_case_item communication_case default_select_case
  select_cases_give {ts} grammar.select_cases_none e acc = gives_stop (rules.select_case_item h s.stmt) acc ts (no_select_case h s.stmt (taken kind.RightBrace ts e))
  select_cases_give {ts} {rest} (grammar.select_cases_communication {u = u} {w = w} {y = y} {k = k} {ss = ss} {more = more} (takes at) d (takes a) b cs) e acc =
      gives_more (rules.select_case_item h s.stmt) acc (rules.a_select_case (Some (statement (start_of u) k)) ss) more ts y rest
      (ap after (read (communication_at h u) _ (communication_reads a d) (read (rules.clause_body s.stmt (Sign kind.Colon a ∷ w)) _ (body_reads a b (select_case_stops cs e)) refl)))
      (omega (arith, run_shorter (communication_run skips_balance d), run_shorter (stmts_run skips_balance b))) (select_cases_give cs e (acc ++ rules.a_select_case (Some (statement (start_of u) k)) ss ∷ []))
  select_cases_give {ts} {rest} (grammar.select_cases_default {v = v} {w = w} {ss = ss} {more = more} (takes at) (takes a) b cs) e acc =
      gives_more (rules.select_case_item h s.stmt) acc (rules.a_select_case None ss) more ts w rest
      (ap after (read (rules.clause_body s.stmt (Sign kind.Colon a ∷ v)) _ (body_reads a b (select_case_stops cs e)) refl))
      (omega (arith, run_shorter (stmts_run skips_balance b))) (select_cases_give cs e (acc ++ rules.a_select_case None ss ∷ []))

  pub select_cases_read : {ts rest : List Terminal} {cs : List SelectCase} → IsSelectCases Skips h ts cs rest → begins kind.RightBrace rest ≡ true → rules.select_cases h s.stmt ts ≡ Some (cs, rest)
  unfolding select_cases
  select_cases_read {ts} {rest} {cs} d e = runs (step_of (rules.select_case_item h s.stmt)) [] ts (Some (cs, rest)) (select_cases_give d e [])

  -- Statements with blocks

  pub else_none_reads : (ts : List Terminal) → begins kind.ElseWord ts ≡ false → rules.else_of s ts ≡ Some (None, ts)
  unfolding else_of
  else_none_reads ts e = if_not _ _ _ e refl

  pub else_some_reads : {ts rest more : List Terminal} {x : Stmt} (at : Extent) → IsBranch h ts x rest → Ends rest more → rules.else_of s (Sign kind.ElseWord at ∷ ts) ≡ Some (Some x, rest)
  unfolding else_of
  else_some_reads {ts} {rest} {more} {x} at d e = read (s.branch ts) _ (c.branches ts x rest more d e) refl

  init_here : (us : List Terminal) {found : Found (Option Stmt)} → begins kind.Semicolon us ≡ true → init h us ≡ found → optional_init (if_has_init h us) h us ≡ found
  unfolding if_has_init
  init_here us e q = ap (λ (b : Bool). optional_init b h us) (if_so _ _ _ e refl) ∙ q

  if_init_reads : {u v w : List Terminal} {i : Option Stmt} {x : Expr} {at : Extent} → IsInit Skips h u i v → IsExpr Skips false h v x (Sign kind.LeftBrace at ∷ w) → optional_init (if_has_init h u) h u ≡ Some (i, v)
  if_init_reads {u} {at = at} grammar.init_none t = ap (λ (b : Bool). optional_init b h u) (condition_alone at t)
  if_init_reads {u} (grammar.init_empty (takes a)) t = init_here u refl (init_reads (grammar.init_empty (takes a)))
  if_init_reads {u} {v} (grammar.init_some d (takes a)) t = ap (λ (b : Bool). optional_init b h u) (statement_first d (behind_sign false kind.Semicolon a v refl)) ∙ init_reads (grammar.init_some d (takes a))

  -- an `if` up to what follows its block
  pub if_reads : {u v w y rest : List Terminal} {i : Option Stmt} {x : Expr} {ss : List Stmt} {e : Option Stmt} → IsInit Skips h u i v → IsExpr Skips false h v x w → IsBlock Skips h w ss y → rules.else_of s y ≡ Some (e, rest)
      → rules.if_of h s u ≡ Some (stmt.If i x ss e, rest)
  unfolding if_of
  if_reads {u} {v} {w} {y} {rest} {i} {x} {ss} {e} d t b q =
      let k = block_brace b in
      let over : OverExpr false w = subst (λ (z : List Terminal). OverExpr false z) (sym k.2) (over_brace k.0 k.1) in
      read (optional_init (if_has_init h u) h u) _ (if_init_reads d (subst (λ (z : List Terminal). IsExpr Skips false h v x z) k.2 t)) (read (expr_of false (levels h) v) _ (expr_reads t over) (read (s.block w) _ (c.block w ss y b) (read (rules.else_of s y) _ q refl)))
