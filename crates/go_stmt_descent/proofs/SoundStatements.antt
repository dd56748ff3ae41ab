-- What the readers of statements, blocks and clauses find is in the grammar.
use Rattle.std.proofs.Common.{◌≡◌, ◌≢◌, ℕ, zero, suc, Bool, true, false, if◌then◌else◌, List, [], ◌∷◌, drop, Option, Some, None, refl, sym, ap, ◌∙◌, subst}
use Rattle.go_cursor.specs.Names.{names}
use Rattle.go_cursor.specs.Reading.{Found, Reader, Next, More, after, bind, begins_name, ended, expect, name, run, step_of}
use Rattle.go_cursor.proofs.Steps.{Sound, SoundTurn, with_bind, branch, same, taken, expected, closed, named_by, names_sound, after_more, item_if, item_unless, ended_sound, run_sound, first_sound, from_none}
use Rattle.go_descent.specs.Levels.{levels}
use Rattle.go_descent.specs.Rules.{expr_of, exprs, primary_expr, typ_of}
use Rattle.go_parse.specs.Declarations.{group, const_spec, var_spec}
use Rattle.go_simple_stmts.specs.SimpleStatements.{simple}
use Rattle.go_stmt_descent.specs.Communications.{communication_at}
use Rattle.go_stmt_descent.specs.declared.headers.ForHeader.{ForHeader}
use Rattle.go_stmt_descent.specs.declared.headers.ForHeader.TheVariants as header
use Rattle.go_stmt_descent.specs.Headers.{begins_binding, begins_guard, clause_before, for_header, if_has_init, optional_before, optional_init, switch_has_init}
use Rattle.go_stmt_descent.specs.Statements as rules
use Rattle.go_stmt_descent.specs.Statements.{Statements, begins_label, binding, block_of, block_stmt, branch_of, break_stmt, case_item, cases, clause_body, communication_case, const_stmt, continue_stmt, default_case, default_select_case, default_type_case, defer_stmt, else_of, ends_stmt, flat_stmt, for_clauses, for_of, go_stmt, goto_stmt, guard_end, if_of, label, labeled, plain, range_assign, range_define, range_of, return_stmt, select_case_item, select_cases, select_of, statements, stmt_item, stmt_of, stmts, stops, switch_end, switch_of, type_case_item, type_cases, type_switch, types, types_case, value_switch, values_case, var_stmt, while_of}
use Rattle.go_stmt_descent.proofs.Found.{consts_found, expr_found, exprs_found, primary_found, simple_found, type_found, vars_found}
use Rattle.go_stmt_descent.proofs.SoundHeaders.{clause_before_found, communication_found, optional_found, optional_init_found}
use Rattle.go_syntax.specs.declared.expression.Expr.{Expr}
use Rattle.go_syntax.specs.declared.name.Name.{Name}
use Rattle.go_syntax.specs.declared.statement.Case.{Case}
use Rattle.go_syntax.specs.declared.statement.SelectCase.{SelectCase}
use Rattle.go_syntax.specs.declared.statement.Stmt.{Stmt}
use Rattle.go_syntax.specs.declared.statement.StmtKind.{StmtKind}
use Rattle.go_syntax.specs.declared.statement.StmtKind.TheVariants as stmt
use Rattle.go_syntax.specs.declared.statement.TypeCase.{TypeCase}
use Rattle.go_syntax.specs.declared.types.«Type».{«Type» as Typ}
use Rattle.go_syntax.specs.declared.token.TokenKind.{TokenKind}
use Rattle.go_syntax.specs.declared.token.TokenKind.TheVariants as kind
use Rattle.go_syntax.specs.grammar.Grammar.{IsExpr, IsExprs, IsType}
use Rattle.go_syntax.specs.grammar.SourceFiles.{Skips}
use Rattle.go_syntax.specs.grammar.Statements as grammar
use Rattle.go_syntax.specs.grammar.Statements.{IsBinding, IsBlock, IsCases, IsCommunication, IsIf, IsInit, IsLabel, IsMoreTypes, IsSelectCases, IsStmt, IsStmtKind, IsStmts, IsTypeCases, start_of, statement}
use Rattle.go_syntax.specs.grammar.Symbols.{Rule, Takes, takes, Ends, ends_semicolon, ends_closing, begins, closes, sign_at}
use Rattle.go_syntax.specs.grammar.Terminals.{Terminal, Sign, Identifier, Basic, Odd}

-- the keyword or the operator that is next
signed : (ts : List Terminal) (k : TokenKind) → sign_at ts ≡ Some k → Takes k ts (drop 1 ts)
signed [] k e = absurd (cc)
signed (Sign j at ∷ ts) k e = let p : j ≡ k = cc in subst (λ (i : TokenKind). Takes i (Sign j at ∷ ts) ts) p (takes at)
signed (Identifier n ∷ ts) k e = absurd (cc)
signed (Basic l place ∷ ts) k e = absurd (cc)
signed (Odd ∷ ts) k e = absurd (cc)

-- what follows `else`
pub data IsBranch (h : ℕ) : List Terminal → Stmt → List Terminal → Type 0 where
  branch_if : {ts rest : List Terminal} {k : StmtKind} → IsIf Skips h ts k rest → IsBranch h ts (statement (start_of ts) k) rest
  branch_block : {ts rest : List Terminal} {ss : List Stmt} → IsBlock Skips h ts ss rest → IsBranch h ts (statement (start_of ts) (stmt.Block ss)) rest

-- the readers find what has at most this height
pub record SoundStatements (h : ℕ) (s : Statements) : Type 0 where
  pub stmt : Sound (IsStmt Skips h) s.stmt
  pub block : Sound (IsBlock Skips h) s.block
  pub branches : Sound (IsBranch h) s.branch

-- Lists

-- statements, each with its end, of which none begins where a list ends
data Chained (D : Rule Stmt) : List Terminal → List Stmt → List Terminal → Type 0 where
  chained_none : {ts : List Terminal} → Chained D ts [] ts
  chained_more : {ts u v rest : List Terminal} {x : Stmt} {xs : List Stmt} → stops ts ≡ false → D ts x u → Ends u v → Chained D v xs rest → Chained D ts (x ∷ xs) rest

abbrev Ended : Rule Stmt → Rule Stmt
Ended D ts x v = (stops ts ≡ false) × ((u : List Terminal) × D ts x u × Ends u v)

closing_stops : (ts : List Terminal) → closes ts ≡ true → stops ts ≡ true
closing_stops ts e = ap (λ (c : Bool). if c then true else (if begins kind.CaseWord ts then true else begins kind.DefaultWord ts)) e

apart : (ts rest : List Terminal) → stops ts ≡ false → closes rest ≡ true → ts ≢ rest
apart ts rest f c q = let t = closing_stops rest c in let g = ap stops q in absurd (cc)

truth_lie : {c : Bool} → c ≡ true → c ≡ false → ⊥
truth_lie t f = absurd (cc)

module _ (h : ℕ) where
  as_stmts : {ts rest : List Terminal} {xs : List Stmt} → Chained (IsStmt Skips h) ts xs rest → IsStmts Skips h ts xs rest
  as_stmts chained_none = grammar.stmts_none
  as_stmts (chained_more f d (ends_semicolon t) more) = grammar.stmts_more d t (as_stmts more)
  as_stmts {ts} {rest} (chained_more f d (ends_closing c) chained_none) = grammar.stmts_last d (apart ts rest f c) c
  as_stmts (chained_more f d (ends_closing {ts = u} c) (chained_more g a b more)) = absurd (truth_lie (closing_stops u c) g)

module _ (D : Rule Stmt) (read : Reader Stmt) (sound : Sound D read) where
  stmt_item_sound : SoundTurn (Ended D) (rules.stmt_item read)
  unfolding stmt_item
  stmt_item_sound ts a rest e = item_unless (stops ts) _ e (λ c m. with_bind (read ts) _ (after_more (bind (read ts) ended) m) (λ b u eb ee.
      let d = ended_sound b u ee in
      (c, (u, subst (λ x. D ts x u) d.1 (sound ts b u eb), d.0))))

  chained : Sound (Chained D) (rules.stmts read)
  unfolding stmts
  chained ts xs rest e = from_none (Chained D) ts xs rest
      (run_sound (Ended D) (Chained D) (λ w. chained_none) (λ w v y x xs k c. chained_more k.0 k.1.1 k.1.2 c) (rules.stmt_item read) stmt_item_sound [] ts xs rest e)

-- Blocks and clauses, above the readers of their statements

module _ (h : ℕ) (read : Reader Stmt) (sound : Sound (IsStmt Skips h) read) where
  stmts_found : Sound (IsStmts Skips h) (rules.stmts read)
  stmts_found ts xs rest e = as_stmts h (chained (IsStmt Skips h) read sound ts xs rest e)

  pub block_found : Sound (IsBlock Skips (suc h)) (rules.block_of read)
  unfolding block_of
  block_found ts ss rest e = with_bind (expect kind.LeftBrace ts) _ e (λ _ u eu eb. with_bind (rules.stmts read u) _ eb (λ xs v ex ec.
      closed (IsBlock Skips (suc h)) kind.RightBrace ts v (λ w t. grammar.block_of (expected kind.LeftBrace ts eu) (stmts_found u xs v ex) t) ec))

  body_found : (ts : List Terminal) (ss : List Stmt) (rest : List Terminal) → rules.clause_body read ts ≡ Some (ss, rest) → (u : List Terminal) × Takes kind.Colon ts u × IsStmts Skips h u ss rest
  unfolding clause_body
  body_found ts ss rest e = with_bind (expect kind.Colon ts) _ e (λ _ u eu es. (u, expected kind.Colon ts eu, stmts_found u ss rest es))

  -- one clause, and more of them

  abbrev ACase : Rule Case
  ACase ts c rest = (xs : List Case) (end : List Terminal) → IsCases Skips h rest xs end → IsCases Skips h ts (c ∷ xs) end

  with_values : {ts u v w rest : List Terminal} {xs : List Expr} {ss : List Stmt} → Takes kind.CaseWord ts u → IsExprs Skips true h u xs v → Takes kind.Colon v w → IsStmts Skips h w ss rest → ACase ts (rules.a_case (Some xs) ss) rest
  with_values k d c b xs end rest = grammar.cases_values k d c b rest

  without_values : {ts u v rest : List Terminal} {ss : List Stmt} → Takes kind.DefaultWord ts u → Takes kind.Colon u v → IsStmts Skips h v ss rest → ACase ts (rules.a_case None ss) rest
  without_values k c b xs end rest = grammar.cases_default k c b rest

  case_found : SoundTurn ACase (rules.case_item h read)
  unfolding case_item values_case default_case
  case_found ts c rest e = branch (begins kind.CaseWord ts) e
      (λ k m. with_bind (exprs (expr_of true (levels h)) (drop 1 ts)) _ (after_more (rules.values_case h read (drop 1 ts)) m) (λ xs u ex eb. with_bind (rules.clause_body read u) _ eb (λ ss v es q.
      let b = body_found u ss v es in
      same ACase ts (with_values (taken kind.CaseWord ts k) (exprs_found true h (drop 1 ts) xs u ex) b.1 b.2) q)))
      (λ k m. item_if (begins kind.DefaultWord ts) _ m (λ c m. with_bind (rules.clause_body read (drop 1 ts)) _ (after_more (rules.default_case read (drop 1 ts)) m) (λ ss v es q.
      let b = body_found (drop 1 ts) ss v es in
      same ACase ts (without_values (taken kind.DefaultWord ts c) b.1 b.2) q)))

  cases_found : Sound (IsCases Skips h) (rules.cases h read)
  unfolding cases
  cases_found ts xs rest e = from_none (IsCases Skips h) ts xs rest (run_sound ACase (IsCases Skips h) (λ w. grammar.cases_none) (λ w v y x xs k c. k xs y c) (rules.case_item h read) case_found [] ts xs rest e)

  type_item_found : SoundTurn (λ ts t rest. Takes kind.Comma ts (drop 1 ts) × IsType Skips h (drop 1 ts) t rest) (rules.type_item h)
  type_item_found ts t rest e = item_if (begins kind.Comma ts) _ e (λ c m. (taken kind.Comma ts c, type_found h (drop 1 ts) t rest (after_more (typ_of (levels h) (drop 1 ts)) m)))

  -- a type, and more of them
  data Types : List Terminal → List Typ → List Terminal → Type 0 where
    types_of : {ts u rest : List Terminal} {t : Typ} {more : List Typ} → IsType Skips h ts t u → IsMoreTypes Skips h u more rest → Types ts (t ∷ more) rest

  types_found : Sound Types (rules.types h)
  unfolding types
  types_found ts xs rest e = with_bind (typ_of (levels h) ts) _ e (λ t u et er. first_sound (IsMoreTypes Skips h) Types ts u t (λ more w c. types_of (type_found h ts t u et) c) xs rest
      (run_sound (λ ts t rest. Takes kind.Comma ts (drop 1 ts) × IsType Skips h (drop 1 ts) t rest) (IsMoreTypes Skips h) (λ w. grammar.types_none) (λ w v y x xs k c. grammar.types_more k.0 k.1 c) (rules.type_item h) type_item_found (t ∷ []) u xs rest er))

  abbrev ATypeCase : Rule TypeCase
  ATypeCase ts c rest = (xs : List TypeCase) (end : List Terminal) → IsTypeCases Skips h rest xs end → IsTypeCases Skips h ts (c ∷ xs) end

  with_types : {ts u v w rest : List Terminal} {types : List Typ} {ss : List Stmt} → Takes kind.CaseWord ts u → Types u types v → Takes kind.Colon v w → IsStmts Skips h w ss rest → ATypeCase ts (rules.a_type_case (Some types) ss) rest
  with_types k (types_of d more) c b xs end rest = grammar.type_cases_types k d more c b rest

  without_types : {ts u v rest : List Terminal} {ss : List Stmt} → Takes kind.DefaultWord ts u → Takes kind.Colon u v → IsStmts Skips h v ss rest → ATypeCase ts (rules.a_type_case None ss) rest
  without_types k c b xs end rest = grammar.type_cases_default k c b rest

  type_case_found : SoundTurn ATypeCase (rules.type_case_item h read)
  unfolding type_case_item types_case default_type_case
  type_case_found ts c rest e = branch (begins kind.CaseWord ts) e
      (λ k m. with_bind (rules.types h (drop 1 ts)) _ (after_more (rules.types_case h read (drop 1 ts)) m) (λ xs u ex eb. with_bind (rules.clause_body read u) _ eb (λ ss v es q.
      let b = body_found u ss v es in
      same ATypeCase ts (with_types (taken kind.CaseWord ts k) (types_found (drop 1 ts) xs u ex) b.1 b.2) q)))
      (λ k m. item_if (begins kind.DefaultWord ts) _ m (λ c m. with_bind (rules.clause_body read (drop 1 ts)) _ (after_more (rules.default_type_case read (drop 1 ts)) m) (λ ss v es q.
      let b = body_found (drop 1 ts) ss v es in
      same ATypeCase ts (without_types (taken kind.DefaultWord ts c) b.1 b.2) q)))

  type_cases_found : Sound (IsTypeCases Skips h) (rules.type_cases h read)
  unfolding type_cases
  type_cases_found ts xs rest e = from_none (IsTypeCases Skips h) ts xs rest (run_sound ATypeCase (IsTypeCases Skips h) (λ w. grammar.type_cases_none) (λ w v y x xs k c. k xs y c) (rules.type_case_item h read) type_case_found [] ts xs rest e)

  abbrev ASelectCase : Rule SelectCase
  ASelectCase ts c rest = (xs : List SelectCase) (end : List Terminal) → IsSelectCases Skips h rest xs end → IsSelectCases Skips h ts (c ∷ xs) end

  with_communication : {ts u v w rest : List Terminal} {k : StmtKind} {ss : List Stmt} → Takes kind.CaseWord ts u → IsCommunication Skips h u k v → Takes kind.Colon v w → IsStmts Skips h w ss rest → ASelectCase ts (rules.a_select_case (Some (statement (start_of u) k)) ss) rest
  with_communication k d c b xs end rest = grammar.select_cases_communication k d c b rest

  without_communication : {ts u v rest : List Terminal} {ss : List Stmt} → Takes kind.DefaultWord ts u → Takes kind.Colon u v → IsStmts Skips h v ss rest → ASelectCase ts (rules.a_select_case None ss) rest
  without_communication k c b xs end rest = grammar.select_cases_default k c b rest

  select_case_found : SoundTurn ASelectCase (rules.select_case_item h read)
  unfolding select_case_item communication_case default_select_case
  select_case_found ts c rest e = branch (begins kind.CaseWord ts) e
      (λ k m. with_bind (communication_at h (drop 1 ts)) _ (after_more (rules.communication_case h read (drop 1 ts)) m) (λ j u ej eb. with_bind (rules.clause_body read u) _ eb (λ ss v es q.
      let b = body_found u ss v es in
      same ASelectCase ts (with_communication (taken kind.CaseWord ts k) (communication_found h (drop 1 ts) j u ej) b.1 b.2) q)))
      (λ k m. item_if (begins kind.DefaultWord ts) _ m (λ c m. with_bind (rules.clause_body read (drop 1 ts)) _ (after_more (rules.default_select_case read (drop 1 ts)) m) (λ ss v es q.
      let b = body_found (drop 1 ts) ss v es in
      same ASelectCase ts (without_communication (taken kind.DefaultWord ts c) b.1 b.2) q)))

  select_cases_found : Sound (IsSelectCases Skips h) (rules.select_cases h read)
  unfolding select_cases
  select_cases_found ts xs rest e = from_none (IsSelectCases Skips h) ts xs rest (run_sound ASelectCase (IsSelectCases Skips h) (λ w. grammar.select_cases_none) (λ w v y x xs k c. k xs y c) (rules.select_case_item h read) select_case_found [] ts xs rest e)

-- Statements of a keyword

label_found : Sound IsLabel rules.label
unfolding label
label_found ts n rest e = branch (begins_name ts) e (λ c en. with_bind (name ts) _ en (λ m u em q. same IsLabel ts (grammar.label_some (named_by ts em)) q)) (λ c q. same IsLabel ts grammar.label_none q)

binding_found : Sound IsBinding rules.binding
unfolding binding
binding_found ts n rest e = branch (begins_binding ts) e
    (λ c en. with_bind (name ts) _ en (λ m u em q. closed IsBinding kind.Define ts u (λ v t. grammar.binding_some (named_by ts em) t) q))
    (λ c q. same IsBinding ts grammar.binding_none q)

guard_found : (ts : List Terminal) (t : Unit {0}) (rest : List Terminal) → rules.guard_end ts ≡ Some (t, rest)
    → (a b c d : List Terminal) × Takes kind.Period ts a × Takes kind.LeftParen a b × Takes kind.TypeWord b c × Takes kind.RightParen c d × Takes kind.LeftBrace d rest
unfolding guard_end
guard_found ts t rest e = with_bind (expect kind.Period ts) _ e (λ _ a ea e. with_bind (expect kind.LeftParen a) _ e (λ _ b eb e. with_bind (expect kind.TypeWord b) _ e (λ _ c ec e. with_bind (expect kind.RightParen c) _ e (λ _ d ed e.
    (a, b, c, d, expected kind.Period ts ea, expected kind.LeftParen a eb, expected kind.TypeWord b ec, expected kind.RightParen c ed, expected kind.LeftBrace d e)))))

module _ (h : ℕ) where
  D : Rule StmtKind
  D = IsStmtKind Skips (suc h)

  module _ (ts u : List Terminal) where
    const_found : Takes kind.ConstWord ts u → (k : StmtKind) (rest : List Terminal) → rules.const_stmt h u ≡ Some (k, rest) → D ts k rest
    unfolding D const_stmt
    const_found t k rest e = with_bind (group (const_spec (levels (suc h))) u) _ e (λ xs v ex q. same (IsStmtKind Skips (suc h)) ts (grammar.stmt_const t (consts_found h u xs v ex)) q)

    var_found : Takes kind.VarWord ts u → (k : StmtKind) (rest : List Terminal) → rules.var_stmt h u ≡ Some (k, rest) → D ts k rest
    unfolding D var_stmt
    var_found t k rest e = with_bind (group (var_spec (levels (suc h))) u) _ e (λ xs v ex q. same (IsStmtKind Skips (suc h)) ts (grammar.stmt_var t (vars_found h u xs v ex)) q)

    go_found : Takes kind.GoWord ts u → (k : StmtKind) (rest : List Terminal) → rules.go_stmt h u ≡ Some (k, rest) → D ts k rest
    unfolding D go_stmt
    go_found t k rest e = with_bind (expr_of true (levels h) u) _ e (λ x v ex q. same (IsStmtKind Skips (suc h)) ts (grammar.stmt_go t (expr_found true h u x v ex)) q)

    defer_found : Takes kind.DeferWord ts u → (k : StmtKind) (rest : List Terminal) → rules.defer_stmt h u ≡ Some (k, rest) → D ts k rest
    unfolding D defer_stmt
    defer_found t k rest e = with_bind (expr_of true (levels h) u) _ e (λ x v ex q. same (IsStmtKind Skips (suc h)) ts (grammar.stmt_defer t (expr_found true h u x v ex)) q)

    return_found : Takes kind.ReturnWord ts u → (k : StmtKind) (rest : List Terminal) → rules.return_stmt h u ≡ Some (k, rest) → D ts k rest
    unfolding D return_stmt
    return_found t k rest e = branch (ends_stmt u) e (λ c q. same (IsStmtKind Skips (suc h)) ts (grammar.stmt_return_none t) q)
        (λ c ex. with_bind (exprs (expr_of true (levels h)) u) _ ex (λ xs v ev q. same (IsStmtKind Skips (suc h)) ts (grammar.stmt_return t (exprs_found true h u xs v ev)) q))

    break_found : Takes kind.BreakWord ts u → (k : StmtKind) (rest : List Terminal) → rules.break_stmt u ≡ Some (k, rest) → D ts k rest
    unfolding D break_stmt
    break_found t k rest e = with_bind (rules.label u) _ e (λ n v en q. same (IsStmtKind Skips (suc h)) ts (grammar.stmt_break t (label_found u n v en)) q)

    continue_found : Takes kind.ContinueWord ts u → (k : StmtKind) (rest : List Terminal) → rules.continue_stmt u ≡ Some (k, rest) → D ts k rest
    unfolding D continue_stmt
    continue_found t k rest e = with_bind (rules.label u) _ e (λ n v en q. same (IsStmtKind Skips (suc h)) ts (grammar.stmt_continue t (label_found u n v en)) q)

    goto_found : Takes kind.GotoWord ts u → (k : StmtKind) (rest : List Terminal) → rules.goto_stmt u ≡ Some (k, rest) → D ts k rest
    unfolding D goto_stmt
    goto_found t k rest e = with_bind (name u) _ e (λ n v en q. same (IsStmtKind Skips (suc h)) ts (grammar.stmt_goto t (named_by u en)) q)

-- Statements with blocks

-- `else` and what follows it, or nothing
data IsElse (h : ℕ) : List Terminal → Option Stmt → List Terminal → Type 0 where
  else_none : {ts : List Terminal} → IsElse h ts None ts
  else_some : {ts u rest : List Terminal} {e : Stmt} → Takes kind.ElseWord ts u → IsBranch h u e rest → IsElse h ts (Some e) rest

an_if : {h : ℕ} {ts u v w y rest : List Terminal} {i : Option Stmt} {x : Expr} {ss : List Stmt} {e : Option Stmt} → Takes kind.IfWord ts u → IsInit Skips h u i v → IsExpr Skips false h v x w → IsBlock Skips h w ss y → IsElse h y e rest
    → IsIf Skips (suc h) ts (stmt.If i x ss e) rest
an_if t i x b else_none = grammar.if_alone t i x b
an_if t i x b (else_some c (branch_if d)) = grammar.if_else_if t i x b c d
an_if t i x b (else_some c (branch_block d)) = grammar.if_else t i x b c d

module _ (h : ℕ) (s : Statements) (sound : SoundStatements h s) where
  else_found : Sound (IsElse h) (rules.else_of s)
  unfolding else_of
  else_found ts e rest q = branch (begins kind.ElseWord ts) q (λ c eb. with_bind (s.branch (drop 1 ts)) _ eb (λ x u ex r. same (IsElse h) ts (else_some (taken kind.ElseWord ts c) (sound.branches (drop 1 ts) x u ex)) r)) (λ c r. same (IsElse h) ts else_none r)

  if_found : (ts u : List Terminal) → Takes kind.IfWord ts u → (k : StmtKind) (rest : List Terminal) → rules.if_of h s u ≡ Some (k, rest) → IsIf Skips (suc h) ts k rest
  unfolding if_of
  if_found ts u t k rest e = with_bind (optional_init (if_has_init h u) h u) _ e (λ i v ei e. with_bind (expr_of false (levels h) v) _ e (λ x w ex e. with_bind (s.block w) _ e (λ ss y es e. with_bind (rules.else_of s y) _ e (λ o z eo q.
      same (IsIf Skips (suc h)) ts (an_if t (optional_init_found (if_has_init h u) h u i v ei) (expr_found false h v x w ex) (sound.block w ss y es) (else_found y o z eo)) q))))

  value_switch_found : (ts u v : List Terminal) (i : Option Stmt) → Takes kind.SwitchWord ts u → IsInit Skips h u i v → (k : StmtKind) (rest : List Terminal) → rules.value_switch h s i v ≡ Some (k, rest) → IsStmtKind Skips (suc h) ts k rest
  unfolding value_switch
  value_switch_found ts u v i t d k rest e = with_bind (optional_before kind.LeftBrace h v) _ e (λ x w ex e. with_bind (expect kind.LeftBrace w) _ e (λ _ y ey e. with_bind (rules.cases h s.stmt y) _ e (λ cs z ec q.
      closed (IsStmtKind Skips (suc h)) kind.RightBrace ts z (λ m r. grammar.stmt_switch t d (optional_found kind.LeftBrace h v x w ex) (expected kind.LeftBrace w ey) (cases_found h s.stmt sound.stmt y cs z ec) r) q)))

  type_switch_found : (ts u v : List Terminal) (i : Option Stmt) → Takes kind.SwitchWord ts u → IsInit Skips h u i v → (k : StmtKind) (rest : List Terminal) → rules.type_switch h s i v ≡ Some (k, rest) → IsStmtKind Skips (suc h) ts k rest
  unfolding type_switch
  type_switch_found ts u v i t d k rest e = with_bind (rules.binding v) _ e (λ n w en e. with_bind (primary_expr false (levels h) w) _ e (λ x y ex e. with_bind (rules.guard_end y) _ e (λ g z eg e. with_bind (rules.type_cases h s.stmt z) _ e (λ cs m ec q.
      let p = guard_found y g z eg in
      closed (IsStmtKind Skips (suc h)) kind.RightBrace ts m (λ o r. grammar.stmt_type_switch t d (binding_found v n w en) (primary_found h w x y ex) p.4 p.5 p.6 p.7 p.8 (type_cases_found h s.stmt sound.stmt z cs m ec) r) q))))

  switch_found : (ts u : List Terminal) → Takes kind.SwitchWord ts u → (k : StmtKind) (rest : List Terminal) → rules.switch_of h s u ≡ Some (k, rest) → IsStmtKind Skips (suc h) ts k rest
  unfolding switch_of switch_end
  switch_found ts u t k rest e = with_bind (optional_init (switch_has_init h u) h u) _ e (λ i v ei e.
      let d = optional_init_found (switch_has_init h u) h u i v ei in
      branch (begins_guard h v) e (λ c q. type_switch_found ts u v i t d k rest q) (λ c q. value_switch_found ts u v i t d k rest q))

  select_found : (ts u : List Terminal) → Takes kind.SelectWord ts u → (k : StmtKind) (rest : List Terminal) → rules.select_of h s u ≡ Some (k, rest) → IsStmtKind Skips (suc h) ts k rest
  unfolding select_of
  select_found ts u t k rest e = with_bind (expect kind.LeftBrace u) _ e (λ _ v ev e. with_bind (rules.select_cases h s.stmt v) _ e (λ cs w ec q.
      closed (IsStmtKind Skips (suc h)) kind.RightBrace ts w (λ m r. grammar.stmt_select t (expected kind.LeftBrace u ev) (select_cases_found h s.stmt sound.stmt v cs w ec) r) q))

  for_by_found : (f : ForHeader) (ts u : List Terminal) → Takes kind.ForWord ts u → (k : StmtKind) (rest : List Terminal) → rules.for_by h s f u ≡ Some (k, rest) → IsStmtKind Skips (suc h) ts k rest
  unfolding while_of range_of range_assign range_define for_clauses
  for_by_found header.Condition ts u t k rest e = with_bind (optional_before kind.LeftBrace h u) _ e (λ x v ex e. with_bind (s.block v) _ e (λ ss w es q. same (IsStmtKind Skips (suc h)) ts (grammar.stmt_while t (optional_found kind.LeftBrace h u x v ex) (sound.block v ss w es)) q))
  for_by_found header.Range ts u t k rest e = with_bind (expect kind.RangeWord u) _ e (λ _ v ev e. with_bind (expr_of false (levels h) v) _ e (λ x w ex e. with_bind (s.block w) _ e (λ ss y es q.
      same (IsStmtKind Skips (suc h)) ts (grammar.stmt_range t (expected kind.RangeWord u ev) (expr_found false h v x w ex) (sound.block w ss y es)) q)))
  for_by_found header.RangeAssign ts u t k rest e = with_bind (exprs (expr_of false (levels h)) u) _ e (λ xs v exs e. with_bind (expect kind.Assign v) _ e (λ _ w ew e. with_bind (expect kind.RangeWord w) _ e (λ _ y ey e.
      with_bind (expr_of false (levels h) y) _ e (λ x z ex e. with_bind (s.block z) _ e (λ ss m es q.
      same (IsStmtKind Skips (suc h)) ts (grammar.stmt_range_assign t (exprs_found false h u xs v exs) (expected kind.Assign v ew) (expected kind.RangeWord w ey) (expr_found false h y x z ex) (sound.block z ss m es)) q)))))
  for_by_found header.RangeDefine ts u t k rest e = with_bind (names u) _ e (λ ns v en e. with_bind (expect kind.Define v) _ e (λ _ w ew e. with_bind (expect kind.RangeWord w) _ e (λ _ y ey e.
      with_bind (expr_of false (levels h) y) _ e (λ x z ex e. with_bind (s.block z) _ e (λ ss m es q.
      same (IsStmtKind Skips (suc h)) ts (grammar.stmt_range_define t (names_sound u ns v en) (expected kind.Define v ew) (expected kind.RangeWord w ey) (expr_found false h y x z ex) (sound.block z ss m es)) q)))))
  for_by_found header.Clauses ts u t k rest e = with_bind (clause_before kind.Semicolon h u) _ e (λ i v ei e. with_bind (expect kind.Semicolon v) _ e (λ _ w ew e. with_bind (optional_before kind.Semicolon h w) _ e (λ x y ex e.
      with_bind (expect kind.Semicolon y) _ e (λ _ z ez e. with_bind (clause_before kind.LeftBrace h z) _ e (λ p m ep e. with_bind (s.block m) _ e (λ ss o es q.
      same (IsStmtKind Skips (suc h)) ts (grammar.stmt_for t (clause_before_found kind.Semicolon h u i v ei) (expected kind.Semicolon v ew) (optional_found kind.Semicolon h w x y ex) (expected kind.Semicolon y ez) (clause_before_found kind.LeftBrace h z p m ep) (sound.block m ss o es)) q))))))

  for_found : (ts u : List Terminal) → Takes kind.ForWord ts u → (k : StmtKind) (rest : List Terminal) → rules.for_of h s u ≡ Some (k, rest) → IsStmtKind Skips (suc h) ts k rest
  unfolding for_of
  for_found ts u t k rest e = for_by_found (for_header h u) ts u t k rest e

  block_stmt_found : (ts : List Terminal) (k : StmtKind) (rest : List Terminal) → rules.block_stmt s ts ≡ Some (k, rest) → (ss : List Stmt) × (k ≡ stmt.Block ss) × IsBlock Skips (suc h) ts ss rest
  unfolding block_stmt
  block_stmt_found ts k rest e = with_bind (rules.block_of s.stmt ts) _ e (λ ss u es q.
      same (λ w (j : StmtKind) v. (xs : List Stmt) × (j ≡ stmt.Block xs) × IsBlock Skips (suc h) w xs v) ts (ss, refl, block_found h s.stmt sound.stmt ts ss u es) q)

  plain_found : Sound (IsStmtKind Skips (suc h)) (rules.plain h s)
  unfolding plain labeled
  plain_found ts k rest e = branch (begins_label ts) e
      (λ c e. with_bind (name ts) _ e (λ n u en e. with_bind (expect kind.Colon u) _ e (λ _ v ev e. with_bind (s.stmt v) _ e (λ x w ex q.
      same (IsStmtKind Skips (suc h)) ts (grammar.stmt_labeled (named_by ts en) (expected kind.Colon u ev) (sound.stmt v x w ex)) q))))
      (λ c e. branch (ends_stmt ts) e (λ d q. same (IsStmtKind Skips (suc h)) ts grammar.stmt_empty q) (λ d q. grammar.stmt_simple (simple_found true h ts k rest q)))

  kind_found : (j : TokenKind) (ts : List Terminal) → sign_at ts ≡ Some j → (k : StmtKind) (rest : List Terminal) → rules.kind_of h s j ts ≡ Some (k, rest) → IsStmtKind Skips (suc h) ts k rest
  unfolding D
  kind_found kind.ConstWord ts c k rest e = const_found h ts (drop 1 ts) (signed ts kind.ConstWord c) k rest e
  kind_found kind.VarWord ts c k rest e = var_found h ts (drop 1 ts) (signed ts kind.VarWord c) k rest e
  kind_found kind.GoWord ts c k rest e = go_found h ts (drop 1 ts) (signed ts kind.GoWord c) k rest e
  kind_found kind.DeferWord ts c k rest e = defer_found h ts (drop 1 ts) (signed ts kind.DeferWord c) k rest e
  kind_found kind.ReturnWord ts c k rest e = return_found h ts (drop 1 ts) (signed ts kind.ReturnWord c) k rest e
  kind_found kind.BreakWord ts c k rest e = break_found h ts (drop 1 ts) (signed ts kind.BreakWord c) k rest e
  kind_found kind.ContinueWord ts c k rest e = continue_found h ts (drop 1 ts) (signed ts kind.ContinueWord c) k rest e
  kind_found kind.GotoWord ts c k rest e = goto_found h ts (drop 1 ts) (signed ts kind.GotoWord c) k rest e
  kind_found kind.FallthroughWord ts c k rest e = same (IsStmtKind Skips (suc h)) ts (grammar.stmt_fallthrough (signed ts kind.FallthroughWord c)) e
  kind_found kind.LeftBrace ts c k rest e = let b = block_stmt_found ts k rest e in subst (λ (j : StmtKind). IsStmtKind Skips (suc h) ts j rest) (sym b.1) (grammar.stmt_block b.2)
  kind_found kind.IfWord ts c k rest e = grammar.stmt_if (if_found ts (drop 1 ts) (signed ts kind.IfWord c) k rest e)
  kind_found kind.SwitchWord ts c k rest e = switch_found ts (drop 1 ts) (signed ts kind.SwitchWord c) k rest e
  kind_found kind.SelectWord ts c k rest e = select_found ts (drop 1 ts) (signed ts kind.SelectWord c) k rest e
  kind_found kind.ForWord ts c k rest e = for_found ts (drop 1 ts) (signed ts kind.ForWord c) k rest e
  kind_found _ ts c k rest e = plain_found ts k rest e

  kind_by_found : (o : Option TokenKind) (ts : List Terminal) → sign_at ts ≡ o → (k : StmtKind) (rest : List Terminal) → rules.kind_by h s o ts ≡ Some (k, rest) → IsStmtKind Skips (suc h) ts k rest
  kind_by_found None ts c k rest e = plain_found ts k rest e
  kind_by_found (Some j) ts c k rest e = kind_found j ts c k rest e

  pub stmt_found : Sound (IsStmt Skips (suc h)) (rules.stmt_of h s)
  unfolding stmt_of
  stmt_found ts x rest e = with_bind (rules.kind_by h s (sign_at ts) ts) _ e (λ k u ek q. same (IsStmt Skips (suc h)) ts (grammar.stmt_at (kind_by_found (sign_at ts) ts refl k u ek)) q)

  block_branch : (ts : List Terminal) (k : StmtKind) (rest : List Terminal) → rules.block_stmt s ts ≡ Some (k, rest) → IsBranch (suc h) ts (statement (start_of ts) k) rest
  block_branch ts k rest e = let b = block_stmt_found ts k rest e in subst (λ (j : StmtKind). IsBranch (suc h) ts (statement (start_of ts) j) rest) (sym b.1) (branch_block b.2)

  pub branch_found : Sound (IsBranch (suc h)) (rules.branch_of h s)
  unfolding branch_of
  branch_found ts x rest e = branch (begins kind.IfWord ts) e
      (λ c e. with_bind (rules.if_of h s (drop 1 ts)) _ e (λ k u ek q. same (IsBranch (suc h)) ts (branch_if (if_found ts (drop 1 ts) (taken kind.IfWord ts c) k u ek)) q))
      (λ c e. with_bind (rules.block_stmt s ts) _ e (λ k u ek q. same (IsBranch (suc h)) ts (block_branch ts k u ek) q))

-- Heights

flat_found : (k : TokenKind) (ts : List Terminal) → sign_at ts ≡ Some k → (j : StmtKind) (rest : List Terminal) → rules.flat_of k ts ≡ Some (j, rest) → IsStmtKind Skips 0 ts j rest
flat_found kind.ReturnWord ts c j rest e = same (IsStmtKind Skips 0) ts (grammar.stmt_return_none (signed ts kind.ReturnWord c)) e
flat_found kind.BreakWord ts c j rest e = same (IsStmtKind Skips 0) ts (grammar.stmt_break_alone (signed ts kind.BreakWord c)) e
flat_found kind.ContinueWord ts c j rest e = same (IsStmtKind Skips 0) ts (grammar.stmt_continue_alone (signed ts kind.ContinueWord c)) e
flat_found kind.FallthroughWord ts c j rest e = same (IsStmtKind Skips 0) ts (grammar.stmt_fallthrough (signed ts kind.FallthroughWord c)) e
flat_found _ ts c j rest e = same (IsStmtKind Skips 0) ts grammar.stmt_empty e

flat_by_found : (o : Option TokenKind) (ts : List Terminal) → sign_at ts ≡ o → (j : StmtKind) (rest : List Terminal) → rules.flat_by o ts ≡ Some (j, rest) → IsStmtKind Skips 0 ts j rest
flat_by_found None ts c j rest e = same (IsStmtKind Skips 0) ts grammar.stmt_empty e
flat_by_found (Some k) ts c j rest e = flat_found k ts c j rest e

flat_stmt_found : Sound (IsStmt Skips 0) rules.flat_stmt
unfolding flat_stmt
flat_stmt_found ts x rest e = with_bind (rules.flat_by (sign_at ts) ts) _ e (λ k u ek q. same (IsStmt Skips 0) ts (grammar.stmt_at (flat_by_found (sign_at ts) ts refl k u ek)) q)

pub statements_found : (h : ℕ) → SoundStatements h (rules.statements h)
unfolding statements
statements_found zero = record { stmt = flat_stmt_found; block = λ ts x rest e. absurd (cc); branches = λ ts x rest e. absurd (cc) }
statements_found (suc h) = record {
  stmt = stmt_found h (rules.statements h) (statements_found h);
  block = block_found h (rules.statements h).stmt (statements_found h).stmt;
  branches = branch_found h (rules.statements h) (statements_found h);
}
