-- The function literals of a statement that is derived, for each rule.
use Rattle.std.proofs.Common.{◌≡◌, ℕ, suc, Bool, List, [], ◌∷◌, ◌++◌, map, Option, Some, None, ap, sym}
use Rattle.go_function_literals.specs.Places.{Places, below, const_places, expr_places, joined, optional_expr, types_places, var_places}
use Rattle.go_function_literals.specs.Sites.{Collected, IsEnd}
use Rattle.go_function_literals.specs.StatementPlaces.{case_places, cases_places, kind_places, optional_stmt, select_case_places, select_cases_places, stmt_places, stmts_places, type_case_places, type_cases_places}
use Rattle.go_function_literals.proofs.Sites.{alone, behind, binding_end, both, deeper, end_and, end_none, ends_end, equally, into, label_end, name_end, names_end, nothing, takes_end, until}
use Rattle.go_function_literals.proofs.StatementLevels.{CaseLayer, KindLayer, SelectCaseLayer, StmtLayer, TypeCaseLayer, case_level, case_literals, case_placed, case_ranged, case_ranges, kind_level, kind_literals, kind_placed, kind_ranged, kind_ranges, select_case_level, select_case_literals, select_case_placed, select_case_ranged, select_case_ranges, stmt_placed, stmt_ranged, type_case_level, type_case_literals, type_case_placed, type_case_ranged, type_case_ranges}
use Rattle.go_function_literals.proofs.TreeSites.{expr_sites, exprs_sites, in_expr, optional_sites, pair, primary_sites, type_sites, unary_sites}
use Rattle.go_syntax.specs.declared.body.BodyRange.{BodyRange}
use Rattle.go_syntax.specs.declared.declaration.ConstSpec.{ConstSpec}
use Rattle.go_syntax.specs.declared.declaration.VarSpec.{VarSpec}
use Rattle.go_syntax.specs.declared.expression.Expr.{Expr, Expr-F}
use Rattle.go_syntax.specs.declared.expression.Expr.TheVariants as expr
use Rattle.go_syntax.specs.declared.name.Name.{Name}
use Rattle.go_syntax.specs.declared.statement.Case.{Case, out-Case, out-roll-Case, roll-Case}
use Rattle.go_syntax.specs.declared.statement.SelectCase.{SelectCase, out-SelectCase, out-roll-SelectCase, roll-SelectCase}
use Rattle.go_syntax.specs.declared.statement.Stmt.{Stmt, out-roll-Stmt}
use Rattle.go_syntax.specs.declared.statement.StmtKind.{StmtKind, StmtKind-F, out-StmtKind}
use Rattle.go_syntax.specs.declared.statement.StmtKind.TheVariants as stmt
use Rattle.go_syntax.specs.declared.statement.TypeCase.{TypeCase, out-TypeCase, out-roll-TypeCase, roll-TypeCase}
use Rattle.go_syntax.specs.declared.types.«Type».{«Type» as Typ}
use Rattle.go_syntax.specs.grammar.Declarations as declarations
use Rattle.go_syntax.specs.grammar.Declarations.{IsGroup, IsSpecs}
use Rattle.go_syntax.specs.grammar.Statements as statements
use Rattle.go_syntax.specs.grammar.Statements.{start_of, statement}
use Rattle.go_syntax.specs.grammar.Symbols.{Rule}
use Rattle.go_syntax.specs.grammar.Terminals.{Terminal}
use Rattle.go_syntax.specs.Literals as literals
use Rattle.go_syntax.specs.Literals.{Ranges, block_literals, expr_literals, exprs_literals, stmt_literals, type_literals}

abbrev pub optional_literals : Option Stmt → Ranges
optional_literals None = []
optional_literals (Some s) = stmt_literals s

abbrev layer : ℕ → StmtKind → StmtLayer
layer start k = record { start = start; kind = k }

module _ {Body Other : ℕ → Rule BodyRange} {h : ℕ} {A : Type 0} {X Y : Rule A} (places : A → Places) (ranges : A → Ranges)
    (item : (ts : List Terminal) (x : A) (rest : List Terminal) → X ts x rest → Collected Body Other h ts rest (places x h) (ranges x) (Y ts x rest)) where
  specs_sites : {ts rest : List Terminal} {xs : List A} → IsSpecs X ts xs rest → Collected Body Other h ts rest (joined (map places xs) h) (literals.joined (map ranges xs)) (IsSpecs Y ts xs rest)
  specs_sites declarations.specs_none = nothing end_none declarations.specs_none
  specs_sites (declarations.specs_more a b c) = both (item _ _ _ a) (behind (ends_end b) (specs_sites c)) (λ k l. declarations.specs_more k b l)

  pub group_sites : {ts rest : List Terminal} {xs : List A} → IsGroup X ts xs rest → Collected Body Other h ts rest (joined (map places xs) h) (literals.joined (map ranges xs)) (IsGroup Y ts xs rest)
  group_sites (declarations.group_one a) = into (λ k. declarations.group_one k) (alone (item _ _ _ a))
  group_sites (declarations.group_specs a b c) = behind (takes_end a) (into (λ k. declarations.group_specs a k c) (until (takes_end c) (specs_sites b)))

module _ {Body Other : ℕ → Rule BodyRange} (ended : (h : ℕ) (ts : List Terminal) (b : BodyRange) (rest : List Terminal) → Body h ts b rest → IsEnd rest ts) where
  -- by the level of a tree

  in_kind : {h : ℕ} {ts rest : List Terminal} {G : Type 0} (x : StmtKind) (l : KindLayer) → out-StmtKind x ≡ l → Collected Body Other h ts rest (kind_level l h) (kind_ranges l) G → Collected Body Other h ts rest (kind_places x h) (kind_literals x) G
  in_kind {h = h} x l e c = equally (ap (λ (f : Places). f h) (sym (kind_placed x l e))) (sym (kind_ranged x l e)) c

  in_case : {h : ℕ} {ts rest : List Terminal} {G : Type 0} (x : Case) (l : CaseLayer) → out-Case x ≡ l → Collected Body Other h ts rest (case_level l h) (case_ranges l) G → Collected Body Other h ts rest (case_places x h) (case_literals x) G
  in_case {h = h} x l e c = equally (ap (λ (f : Places). f h) (sym (case_placed x l e))) (sym (case_ranged x l e)) c

  in_type_case : {h : ℕ} {ts rest : List Terminal} {G : Type 0} (x : TypeCase) (l : TypeCaseLayer) → out-TypeCase x ≡ l → Collected Body Other h ts rest (type_case_level l h) (type_case_ranges l) G → Collected Body Other h ts rest (type_case_places x h) (type_case_literals x) G
  in_type_case {h = h} x l e c = equally (ap (λ (f : Places). f h) (sym (type_case_placed x l e))) (sym (type_case_ranged x l e)) c

  in_select_case : {h : ℕ} {ts rest : List Terminal} {G : Type 0} (x : SelectCase) (l : SelectCaseLayer) → out-SelectCase x ≡ l → Collected Body Other h ts rest (select_case_level l h) (select_case_ranges l) G → Collected Body Other h ts rest (select_case_places x h) (select_case_literals x) G
  in_select_case {h = h} x l e c = equally (ap (λ (f : Places). f h) (sym (select_case_placed x l e))) (sym (select_case_ranged x l e)) c

  in_stmt : {h : ℕ} {ts rest : List Terminal} {G : Type 0} (start : ℕ) (k : StmtKind) → Collected Body Other h ts rest (kind_places k h) (kind_literals k) G → Collected Body Other h ts rest (stmt_places (statement start k) h) (stmt_literals (statement start k)) G
  in_stmt {h = h} start k c = equally (ap (λ (f : Places). f h) (sym (stmt_placed (statement start k) (layer start k) (out-roll-Stmt (layer start k))))) (sym (stmt_ranged (statement start k) (layer start k) (out-roll-Stmt (layer start k)))) c

  -- statements with a header of which a part may be missing

  in_switch : {h : ℕ} {ts rest : List Terminal} {G : Type 0} (init : Option Stmt) (tag : Option Expr) (cases : List Case) → Collected Body Other h ts rest (optional_stmt init h ++ (optional_expr tag h ++ cases_places cases h)) (optional_literals init ++ (literals.optional_expr tag ++ literals.joined (map case_literals cases))) G → Collected Body Other (suc h) ts rest (kind_places (stmt.Switch init tag cases) (suc h)) (kind_literals (stmt.Switch init tag cases)) G
  in_switch None tag cases c = in_kind (stmt.Switch None tag cases) (StmtKind-F.Switch None tag cases) (stmt.outs-Switch None tag cases) (deeper c)
  in_switch (Some s) tag cases c = in_kind (stmt.Switch (Some s) tag cases) (StmtKind-F.Switch (Some s) tag cases) (stmt.outs-Switch (Some s) tag cases) (deeper c)

  in_type_switch : {h : ℕ} {ts rest : List Terminal} {G : Type 0} (init : Option Stmt) (n : Option Name) (x : Expr) (cases : List TypeCase) → Collected Body Other h ts rest (optional_stmt init h ++ (expr_places x h ++ type_cases_places cases h)) (optional_literals init ++ (expr_literals x ++ literals.joined (map type_case_literals cases))) G → Collected Body Other (suc h) ts rest (kind_places (stmt.TypeSwitch init n x cases) (suc h)) (kind_literals (stmt.TypeSwitch init n x cases)) G
  in_type_switch None n x cases c = in_kind (stmt.TypeSwitch None n x cases) (StmtKind-F.TypeSwitch None n x cases) (stmt.outs-TypeSwitch None n x cases) (deeper c)
  in_type_switch (Some s) n x cases c = in_kind (stmt.TypeSwitch (Some s) n x cases) (StmtKind-F.TypeSwitch (Some s) n x cases) (stmt.outs-TypeSwitch (Some s) n x cases) (deeper c)

  in_if_alone : {h : ℕ} {ts rest : List Terminal} {G : Type 0} (init : Option Stmt) (x : Expr) (ss : List Stmt) → Collected Body Other h ts rest (optional_stmt init h ++ (expr_places x h ++ (stmts_places ss (below h) ++ []))) (optional_literals init ++ (expr_literals x ++ (block_literals ss ++ []))) G → Collected Body Other (suc h) ts rest (kind_places (stmt.If init x ss None) (suc h)) (kind_literals (stmt.If init x ss None)) G
  in_if_alone None x ss c = in_kind (stmt.If None x ss None) (StmtKind-F.If None x ss None) (stmt.outs-If None x ss None) (deeper c)
  in_if_alone (Some s) x ss c = in_kind (stmt.If (Some s) x ss None) (StmtKind-F.If (Some s) x ss None) (stmt.outs-If (Some s) x ss None) (deeper c)

  in_if : {h : ℕ} {ts rest : List Terminal} {G : Type 0} (init : Option Stmt) (x : Expr) (ss : List Stmt) (other : Stmt) → Collected Body Other h ts rest (optional_stmt init h ++ (expr_places x h ++ (stmts_places ss (below h) ++ stmt_places other h))) (optional_literals init ++ (expr_literals x ++ (block_literals ss ++ stmt_literals other))) G → Collected Body Other (suc h) ts rest (kind_places (stmt.If init x ss (Some other)) (suc h)) (kind_literals (stmt.If init x ss (Some other))) G
  in_if None x ss other c = in_kind (stmt.If None x ss (Some other)) (StmtKind-F.If None x ss (Some other)) (stmt.outs-If None x ss (Some other)) (deeper c)
  in_if (Some s) x ss other c = in_kind (stmt.If (Some s) x ss (Some other)) (StmtKind-F.If (Some s) x ss (Some other)) (stmt.outs-If (Some s) x ss (Some other)) (deeper c)

  in_for : {h : ℕ} {ts rest : List Terminal} {G : Type 0} (init : Option Stmt) (x : Option Expr) (post : Option Stmt) (ss : List Stmt) → Collected Body Other h ts rest (optional_stmt init h ++ (optional_expr x h ++ (optional_stmt post h ++ stmts_places ss (below h)))) (optional_literals init ++ (literals.optional_expr x ++ (optional_literals post ++ block_literals ss))) G → Collected Body Other (suc h) ts rest (kind_places (stmt.For init x post ss) (suc h)) (kind_literals (stmt.For init x post ss)) G
  in_for None x None ss c = in_kind (stmt.For None x None ss) (StmtKind-F.For None x None ss) (stmt.outs-For None x None ss) (deeper c)
  in_for None x (Some p) ss c = in_kind (stmt.For None x (Some p) ss) (StmtKind-F.For None x (Some p) ss) (stmt.outs-For None x (Some p) ss) (deeper c)
  in_for (Some s) x None ss c = in_kind (stmt.For (Some s) x None ss) (StmtKind-F.For (Some s) x None ss) (stmt.outs-For (Some s) x None ss) (deeper c)
  in_for (Some s) x (Some p) ss c = in_kind (stmt.For (Some s) x (Some p) ss) (StmtKind-F.For (Some s) x (Some p) ss) (stmt.outs-For (Some s) x (Some p) ss) (deeper c)

  pub const_spec_sites : {h : ℕ} {ts : List Terminal} {a : ConstSpec} {rest : List Terminal} → declarations.IsConstSpec Body h ts a rest → Collected Body Other h ts rest (const_places a h) (literals.const_literals a) (declarations.IsConstSpec Other h ts a rest)
  const_spec_sites (declarations.const_names a0) = nothing (names_end a0) (declarations.const_names a0)
  const_spec_sites (declarations.const_values a0 a1 a2) = behind (names_end a0) (behind (takes_end a1) (into (λ k. declarations.const_values a0 a1 k) (exprs_sites ended a2)))
  const_spec_sites (declarations.const_typed a0 a1 a2 a3) = behind (names_end a0) (both (type_sites ended a1) (behind (takes_end a2) (exprs_sites ended a3)) (λ k l. declarations.const_typed a0 k a2 l))

  pub var_spec_sites : {h : ℕ} {ts : List Terminal} {a : VarSpec} {rest : List Terminal} → declarations.IsVarSpec Body h ts a rest → Collected Body Other h ts rest (var_places a h) (literals.var_literals a) (declarations.IsVarSpec Other h ts a rest)
  var_spec_sites (declarations.var_type a0 a1) = behind (names_end a0) (into (λ k. declarations.var_type a0 k) (alone (type_sites ended a1)))
  var_spec_sites (declarations.var_values a0 a1 a2) = behind (names_end a0) (behind (takes_end a1) (into (λ k. declarations.var_values a0 a1 k) (exprs_sites ended a2)))
  var_spec_sites (declarations.var_typed a0 a1 a2 a3) = behind (names_end a0) (both (type_sites ended a1) (behind (takes_end a2) (exprs_sites ended a3)) (λ k l. declarations.var_typed a0 k a2 l))

  pub simple_sites : {b : Bool} {h : ℕ} {ts : List Terminal} {a : StmtKind} {rest : List Terminal} → statements.IsSimple Body b h ts a rest → Collected Body Other h ts rest (kind_places a h) (kind_literals a) (statements.IsSimple Other b h ts a rest)
  simple_sites (statements.simple_expr {x = x} a0) = in_kind (stmt.Expr x) (StmtKind-F.Expr x) (stmt.outs-Expr x) (deeper (into (λ k. statements.simple_expr k) (expr_sites ended a0)))
  simple_sites (statements.simple_send {x = x} {y = y} a0 a1 a2) = in_kind (stmt.Send x y) (StmtKind-F.Send x y) (stmt.outs-Send x y) (deeper (both (expr_sites ended a0) (behind (takes_end a1) (expr_sites ended a2)) (λ k l. statements.simple_send k a1 l)))
  simple_sites (statements.simple_step {op = op} {x = x} a0 a1 a2) = in_kind (stmt.Step x op) (StmtKind-F.Step x op) (stmt.outs-Step x op) (deeper (into (λ k. statements.simple_step k a1 a2) (until (takes_end a1) (expr_sites ended a0))))
  simple_sites (statements.simple_assign {xs = xs} {ys = ys} a0 a1 a2) = in_kind (stmt.Assign xs ys) (StmtKind-F.Assign xs ys) (stmt.outs-Assign xs ys) (deeper (both (exprs_sites ended a0) (behind (takes_end a1) (exprs_sites ended a2)) (λ k l. statements.simple_assign k a1 l)))
  simple_sites (statements.simple_operation {op = op} {x = x} {y = y} a0 a1 a2 a3) = in_kind (stmt.AssignOp x op y) (StmtKind-F.AssignOp x op y) (stmt.outs-AssignOp x op y) (deeper (both (expr_sites ended a0) (behind (takes_end a1) (expr_sites ended a3)) (λ k l. statements.simple_operation k a1 a2 l)))
  simple_sites (statements.simple_define {ns = ns} {xs = xs} a0 a1 a2) = in_kind (stmt.Define ns xs) (StmtKind-F.Define ns xs) (stmt.outs-Define ns xs) (deeper (behind (names_end a0) (behind (takes_end a1) (into (λ k. statements.simple_define a0 a1 k) (exprs_sites ended a2)))))

  pub clause_sites : {h : ℕ} {ts : List Terminal} {a : Option Stmt} {rest : List Terminal} → statements.IsClause Body h ts a rest → Collected Body Other h ts rest (optional_stmt a h) (optional_literals a) (statements.IsClause Other h ts a rest)
  clause_sites statements.clause_none = nothing end_none statements.clause_none
  clause_sites (statements.clause_some {ts = ts} {k = k} a0) = in_stmt (start_of ts) k (into (λ k. statements.clause_some k) (simple_sites a0))

  pub init_sites : {h : ℕ} {ts : List Terminal} {a : Option Stmt} {rest : List Terminal} → statements.IsInit Body h ts a rest → Collected Body Other h ts rest (optional_stmt a h) (optional_literals a) (statements.IsInit Other h ts a rest)
  init_sites statements.init_none = nothing end_none statements.init_none
  init_sites (statements.init_empty {ts = ts} a0) = in_stmt (start_of ts) stmt.Empty (in_kind stmt.Empty StmtKind-F.Empty stmt.outs-Empty (nothing (takes_end a0) (statements.init_empty a0)))
  init_sites (statements.init_some {ts = ts} {k = k} a0 a1) = in_stmt (start_of ts) k (into (λ k. statements.init_some k a1) (until (takes_end a1) (simple_sites a0)))

  pub receive_sites : {h : ℕ} {ts : List Terminal} {a : Expr} {rest : List Terminal} → statements.IsReceive Body h ts a rest → Collected Body Other h ts rest (expr_places a h) (expr_literals a) (statements.IsReceive Other h ts a rest)
  receive_sites (statements.receive a0 a1) = into (λ k. statements.receive a0 k) (unary_sites ended a1)
  receive_sites (statements.receive_paren {x = x} a0 a1 a2) = in_expr ended (expr.Paren x) (Expr-F.«Expr::Paren» x) (expr.outs-Paren x) (deeper (behind (takes_end a0) (into (λ k. statements.receive_paren a0 k a2) (until (takes_end a2) (receive_sites a1)))))

  pub communication_sites : {h : ℕ} {ts : List Terminal} {a : StmtKind} {rest : List Terminal} → statements.IsCommunication Body h ts a rest → Collected Body Other h ts rest (kind_places a h) (kind_literals a) (statements.IsCommunication Other h ts a rest)
  communication_sites (statements.communication_send {x = x} {y = y} a0 a1 a2) = in_kind (stmt.Send x y) (StmtKind-F.Send x y) (stmt.outs-Send x y) (deeper (both (expr_sites ended a0) (behind (takes_end a1) (expr_sites ended a2)) (λ k l. statements.communication_send k a1 l)))
  communication_sites (statements.communication_receive {x = x} a0) = in_kind (stmt.Expr x) (StmtKind-F.Expr x) (stmt.outs-Expr x) (deeper (into (λ k. statements.communication_receive k) (receive_sites a0)))
  communication_sites (statements.communication_assign {xs = xs} {x = x} a0 a1 a2) = in_kind (stmt.Assign xs (x ∷ [])) (StmtKind-F.Assign xs (x ∷ [])) (stmt.outs-Assign xs (x ∷ [])) (deeper (both (exprs_sites ended a0) (behind (takes_end a1) (alone (receive_sites a2))) (λ k l. statements.communication_assign k a1 l)))
  communication_sites (statements.communication_define {ns = ns} {x = x} a0 a1 a2) = in_kind (stmt.Define ns (x ∷ [])) (StmtKind-F.Define ns (x ∷ [])) (stmt.outs-Define ns (x ∷ [])) (deeper (behind (names_end a0) (behind (takes_end a1) (into (λ k. statements.communication_define a0 a1 k) (alone (receive_sites a2))))))

  pub more_types_sites : {h : ℕ} {ts : List Terminal} {a : List Typ} {rest : List Terminal} → statements.IsMoreTypes Body h ts a rest → Collected Body Other h ts rest (types_places a h) (literals.joined (map type_literals a)) (statements.IsMoreTypes Other h ts a rest)
  more_types_sites statements.types_none = nothing end_none statements.types_none
  more_types_sites (statements.types_more a0 a1 a2) = behind (takes_end a0) (both (type_sites ended a1) (more_types_sites a2) (λ k l. statements.types_more a0 k l))

  mutual
    pub block_sites : {h : ℕ} {ts : List Terminal} {a : List Stmt} {rest : List Terminal} → statements.IsBlock Body h ts a rest → Collected Body Other h ts rest (stmts_places a (below h)) (block_literals a) (statements.IsBlock Other h ts a rest)
    block_sites (statements.block_of a0 a1 a2) = deeper (behind (takes_end a0) (into (λ k. statements.block_of a0 k a2) (until (takes_end a2) (stmts_sites a1))))

    pub stmts_sites : {h : ℕ} {ts : List Terminal} {a : List Stmt} {rest : List Terminal} → statements.IsStmts Body h ts a rest → Collected Body Other h ts rest (stmts_places a h) (block_literals a) (statements.IsStmts Other h ts a rest)
    stmts_sites statements.stmts_none = nothing end_none statements.stmts_none
    stmts_sites (statements.stmts_more a0 a1 a2) = both (stmt_sites a0) (behind (takes_end a1) (stmts_sites a2)) (λ k l. statements.stmts_more k a1 l)
    stmts_sites (statements.stmts_last a0 a1 a2) = into (λ k. statements.stmts_last k a1 a2) (alone (stmt_sites a0))

    pub stmt_sites : {h : ℕ} {ts : List Terminal} {a : Stmt} {rest : List Terminal} → statements.IsStmt Body h ts a rest → Collected Body Other h ts rest (stmt_places a h) (stmt_literals a) (statements.IsStmt Other h ts a rest)
    stmt_sites (statements.stmt_at {ts = ts} {k = k} a0) = in_stmt (start_of ts) k (into (λ k. statements.stmt_at k) (stmt_kind_sites a0))

    pub stmt_kind_sites : {h : ℕ} {ts : List Terminal} {a : StmtKind} {rest : List Terminal} → statements.IsStmtKind Body h ts a rest → Collected Body Other h ts rest (kind_places a h) (kind_literals a) (statements.IsStmtKind Other h ts a rest)
    stmt_kind_sites statements.stmt_empty = in_kind stmt.Empty StmtKind-F.Empty stmt.outs-Empty (nothing end_none statements.stmt_empty)
    stmt_kind_sites (statements.stmt_simple a0) = into (λ k. statements.stmt_simple k) (simple_sites a0)
    stmt_kind_sites (statements.stmt_const {specs = specs} a0 a1) = in_kind (stmt.Const specs) (StmtKind-F.Const specs) (stmt.outs-Const specs) (deeper (behind (takes_end a0) (into (λ k. statements.stmt_const a0 k) (group_sites const_places literals.const_literals (λ w x u s. const_spec_sites s) a1))))
    stmt_kind_sites (statements.stmt_var {specs = specs} a0 a1) = in_kind (stmt.Var specs) (StmtKind-F.Var specs) (stmt.outs-Var specs) (deeper (behind (takes_end a0) (into (λ k. statements.stmt_var a0 k) (group_sites var_places literals.var_literals (λ w x u s. var_spec_sites s) a1))))
    stmt_kind_sites (statements.stmt_labeled {n = n} {s = s} a0 a1 a2) = in_kind (stmt.Labeled n s) (StmtKind-F.Labeled n s) (stmt.outs-Labeled n s) (deeper (behind (name_end a0) (behind (takes_end a1) (into (λ k. statements.stmt_labeled a0 a1 k) (stmt_sites a2)))))
    stmt_kind_sites (statements.stmt_go {x = x} a0 a1) = in_kind (stmt.Go x) (StmtKind-F.Go x) (stmt.outs-Go x) (deeper (behind (takes_end a0) (into (λ k. statements.stmt_go a0 k) (expr_sites ended a1))))
    stmt_kind_sites (statements.stmt_defer {x = x} a0 a1) = in_kind (stmt.Defer x) (StmtKind-F.Defer x) (stmt.outs-Defer x) (deeper (behind (takes_end a0) (into (λ k. statements.stmt_defer a0 k) (expr_sites ended a1))))
    stmt_kind_sites (statements.stmt_return_none a0) = in_kind (stmt.Return []) (StmtKind-F.Return []) (stmt.outs-Return []) (nothing (takes_end a0) (statements.stmt_return_none a0))
    stmt_kind_sites (statements.stmt_return {xs = xs} a0 a1) = in_kind (stmt.Return xs) (StmtKind-F.Return xs) (stmt.outs-Return xs) (deeper (behind (takes_end a0) (into (λ k. statements.stmt_return a0 k) (exprs_sites ended a1))))
    stmt_kind_sites (statements.stmt_break {n = n} a0 a1) = in_kind (stmt.Break n) (StmtKind-F.Break n) (stmt.outs-Break n) (nothing (end_and (takes_end a0) (label_end a1)) (statements.stmt_break a0 a1))
    stmt_kind_sites (statements.stmt_break_alone a0) = in_kind (stmt.Break None) (StmtKind-F.Break None) (stmt.outs-Break None) (nothing (takes_end a0) (statements.stmt_break_alone a0))
    stmt_kind_sites (statements.stmt_continue {n = n} a0 a1) = in_kind (stmt.Continue n) (StmtKind-F.Continue n) (stmt.outs-Continue n) (nothing (end_and (takes_end a0) (label_end a1)) (statements.stmt_continue a0 a1))
    stmt_kind_sites (statements.stmt_continue_alone a0) = in_kind (stmt.Continue None) (StmtKind-F.Continue None) (stmt.outs-Continue None) (nothing (takes_end a0) (statements.stmt_continue_alone a0))
    stmt_kind_sites (statements.stmt_goto {n = n} a0 a1) = in_kind (stmt.Goto n) (StmtKind-F.Goto n) (stmt.outs-Goto n) (nothing (end_and (takes_end a0) (name_end a1)) (statements.stmt_goto a0 a1))
    stmt_kind_sites (statements.stmt_fallthrough a0) = in_kind stmt.Fallthrough StmtKind-F.Fallthrough stmt.outs-Fallthrough (nothing (takes_end a0) (statements.stmt_fallthrough a0))
    stmt_kind_sites (statements.stmt_block {ss = ss} a0) = in_kind (stmt.Block ss) (StmtKind-F.Block ss) (stmt.outs-Block ss) (into (λ k. statements.stmt_block k) (block_sites a0))
    stmt_kind_sites (statements.stmt_if a0) = into (λ k. statements.stmt_if k) (if_sites a0)
    stmt_kind_sites (statements.stmt_switch {init = init} {tag = tag} {cases = cases} a0 a1 a2 a3 a4 a5) = in_switch init tag cases (behind (takes_end a0) (both (init_sites a1) (both (optional_sites ended a2) (behind (takes_end a3) (until (takes_end a5) (cases_sites a4))) pair) (λ k p. statements.stmt_switch a0 k p.0 a3 p.1 a5)))
    stmt_kind_sites (statements.stmt_type_switch {init = init} {n = n} {x = x} {cases = cases} a0 a1 a2 a3 a4 a5 a6 a7 a8 a9 a10) = in_type_switch init n x cases (behind (takes_end a0) (both (init_sites a1) (behind (binding_end a2) (both (primary_sites ended a3) (behind (takes_end a4) (behind (takes_end a5) (behind (takes_end a6) (behind (takes_end a7) (behind (takes_end a8) (until (takes_end a10) (type_cases_sites a9))))))) pair)) (λ k p. statements.stmt_type_switch a0 k a2 p.0 a4 a5 a6 a7 a8 p.1 a10)))
    stmt_kind_sites (statements.stmt_select {cases = cases} a0 a1 a2 a3) = in_kind (stmt.Select cases) (StmtKind-F.Select cases) (stmt.outs-Select cases) (deeper (behind (takes_end a0) (behind (takes_end a1) (into (λ k. statements.stmt_select a0 a1 k a3) (until (takes_end a3) (select_cases_sites a2))))))
    stmt_kind_sites (statements.stmt_while {x = x} {ss = ss} a0 a1 a2) = in_kind (stmt.While x ss) (StmtKind-F.While x ss) (stmt.outs-While x ss) (deeper (behind (takes_end a0) (both (optional_sites ended a1) (block_sites a2) (λ k l. statements.stmt_while a0 k l))))
    stmt_kind_sites (statements.stmt_for {init = init} {post = post} {x = x} {ss = ss} a0 a1 a2 a3 a4 a5 a6) = in_for init x post ss (behind (takes_end a0) (both (clause_sites a1) (behind (takes_end a2) (both (optional_sites ended a3) (behind (takes_end a4) (both (clause_sites a5) (block_sites a6) pair)) pair)) (λ k p. statements.stmt_for a0 k a2 p.0 a4 p.1.0 p.1.1)))
    stmt_kind_sites (statements.stmt_range {x = x} {ss = ss} a0 a1 a2 a3) = in_kind (stmt.Range x ss) (StmtKind-F.Range x ss) (stmt.outs-Range x ss) (deeper (behind (takes_end a0) (behind (takes_end a1) (both (expr_sites ended a2) (block_sites a3) (λ k l. statements.stmt_range a0 a1 k l)))))
    stmt_kind_sites (statements.stmt_range_assign {xs = xs} {x = x} {ss = ss} a0 a1 a2 a3 a4 a5) = in_kind (stmt.RangeAssign xs x ss) (StmtKind-F.RangeAssign xs x ss) (stmt.outs-RangeAssign xs x ss) (deeper (behind (takes_end a0) (both (exprs_sites ended a1) (behind (takes_end a2) (behind (takes_end a3) (both (expr_sites ended a4) (block_sites a5) pair))) (λ k p. statements.stmt_range_assign a0 k a2 a3 p.0 p.1))))
    stmt_kind_sites (statements.stmt_range_define {ns = ns} {x = x} {ss = ss} a0 a1 a2 a3 a4 a5) = in_kind (stmt.RangeDefine ns x ss) (StmtKind-F.RangeDefine ns x ss) (stmt.outs-RangeDefine ns x ss) (deeper (behind (takes_end a0) (behind (names_end a1) (behind (takes_end a2) (behind (takes_end a3) (both (expr_sites ended a4) (block_sites a5) (λ k l. statements.stmt_range_define a0 a1 a2 a3 k l)))))))

    pub if_sites : {h : ℕ} {ts : List Terminal} {a : StmtKind} {rest : List Terminal} → statements.IsIf Body h ts a rest → Collected Body Other h ts rest (kind_places a h) (kind_literals a) (statements.IsIf Other h ts a rest)
    if_sites (statements.if_alone {init = init} {x = x} {ss = ss} a0 a1 a2 a3) = in_if_alone init x ss (behind (takes_end a0) (both (init_sites a1) (both (expr_sites ended a2) (alone (block_sites a3)) pair) (λ k p. statements.if_alone a0 k p.0 p.1)))
    if_sites (statements.if_else_if {z = z} {init = init} {x = x} {ss = ss} {k = k} a0 a1 a2 a3 a4 a5) = in_if init x ss (statement (start_of z) k) (behind (takes_end a0) (both (init_sites a1) (both (expr_sites ended a2) (both (block_sites a3) (behind (takes_end a4) (in_stmt (start_of z) k (if_sites a5))) pair) pair) (λ k p. statements.if_else_if a0 k p.0 p.1.0 a4 p.1.1)))
    if_sites (statements.if_else {z = z} {init = init} {x = x} {ss = ss} {other = other} a0 a1 a2 a3 a4 a5) = in_if init x ss (statement (start_of z) (stmt.Block other)) (behind (takes_end a0) (both (init_sites a1) (both (expr_sites ended a2) (both (block_sites a3) (behind (takes_end a4) (in_stmt (start_of z) (stmt.Block other) (in_kind (stmt.Block other) (StmtKind-F.Block other) (stmt.outs-Block other) (block_sites a5)))) pair) pair) (λ k p. statements.if_else a0 k p.0 p.1.0 a4 p.1.1)))

    pub cases_sites : {h : ℕ} {ts : List Terminal} {a : List Case} {rest : List Terminal} → statements.IsCases Body h ts a rest → Collected Body Other h ts rest (cases_places a h) (literals.joined (map case_literals a)) (statements.IsCases Other h ts a rest)
    cases_sites statements.cases_none = nothing end_none statements.cases_none
    cases_sites (statements.cases_values {xs = xs} {ss = ss} a0 a1 a2 a3 a4) = behind (takes_end a0) (both (in_case (roll-Case (record { values = Some xs; body = ss })) (record { values = Some xs; body = ss }) (out-roll-Case (record { values = Some xs; body = ss })) (both (exprs_sites ended a1) (behind (takes_end a2) (stmts_sites a3)) pair)) (cases_sites a4) (λ k l. statements.cases_values a0 k.0 a2 k.1 l))
    cases_sites (statements.cases_default {ss = ss} a0 a1 a2 a3) = behind (takes_end a0) (behind (takes_end a1) (both (in_case (roll-Case (record { values = None; body = ss })) (record { values = None; body = ss }) (out-roll-Case (record { values = None; body = ss })) (stmts_sites a2)) (cases_sites a3) (λ k l. statements.cases_default a0 a1 k l)))

    pub type_cases_sites : {h : ℕ} {ts : List Terminal} {a : List TypeCase} {rest : List Terminal} → statements.IsTypeCases Body h ts a rest → Collected Body Other h ts rest (type_cases_places a h) (literals.joined (map type_case_literals a)) (statements.IsTypeCases Other h ts a rest)
    type_cases_sites statements.type_cases_none = nothing end_none statements.type_cases_none
    type_cases_sites (statements.type_cases_types {t = t} {types = types} {ss = ss} a0 a1 a2 a3 a4 a5) = behind (takes_end a0) (both (in_type_case (roll-TypeCase (record { types = Some (t ∷ types); body = ss })) (record { types = Some (t ∷ types); body = ss }) (out-roll-TypeCase (record { types = Some (t ∷ types); body = ss })) (both (both (type_sites ended a1) (more_types_sites a2) pair) (behind (takes_end a3) (stmts_sites a4)) pair)) (type_cases_sites a5) (λ k l. statements.type_cases_types a0 k.0.0 k.0.1 a3 k.1 l))
    type_cases_sites (statements.type_cases_default {ss = ss} a0 a1 a2 a3) = behind (takes_end a0) (behind (takes_end a1) (both (in_type_case (roll-TypeCase (record { types = None; body = ss })) (record { types = None; body = ss }) (out-roll-TypeCase (record { types = None; body = ss })) (stmts_sites a2)) (type_cases_sites a3) (λ k l. statements.type_cases_default a0 a1 k l)))

    pub select_cases_sites : {h : ℕ} {ts : List Terminal} {a : List SelectCase} {rest : List Terminal} → statements.IsSelectCases Body h ts a rest → Collected Body Other h ts rest (select_cases_places a h) (literals.joined (map select_case_literals a)) (statements.IsSelectCases Other h ts a rest)
    select_cases_sites statements.select_cases_none = nothing end_none statements.select_cases_none
    select_cases_sites (statements.select_cases_communication {u = u} {k = k} {ss = ss} a0 a1 a2 a3 a4) = behind (takes_end a0) (both (in_select_case (roll-SelectCase (record { communication = Some (statement (start_of u) k); body = ss })) (record { communication = Some (statement (start_of u) k); body = ss }) (out-roll-SelectCase (record { communication = Some (statement (start_of u) k); body = ss })) (both (in_stmt (start_of u) k (communication_sites a1)) (behind (takes_end a2) (stmts_sites a3)) pair)) (select_cases_sites a4) (λ p l. statements.select_cases_communication a0 p.0 a2 p.1 l))
    select_cases_sites (statements.select_cases_default {ss = ss} a0 a1 a2 a3) = behind (takes_end a0) (behind (takes_end a1) (both (in_select_case (roll-SelectCase (record { communication = None; body = ss })) (record { communication = None; body = ss }) (out-roll-SelectCase (record { communication = None; body = ss })) (stmts_sites a2)) (select_cases_sites a3) (λ k l. statements.select_cases_default a0 a1 k l)))
