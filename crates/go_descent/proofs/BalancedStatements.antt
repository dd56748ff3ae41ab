-- Each statement covers a balanced run, where each body of a function literal does; so each parsed body does.
use Rattle.std.specs.Prelude.{◌≡◌, ℕ, zero, suc, Bool, true, List, Option, Some}
use Rattle.std.proofs.Common.{refl}
use Rattle.go_syntax.specs.declared.declaration.ConstSpec.{ConstSpec}
use Rattle.go_syntax.specs.declared.declaration.VarSpec.{VarSpec}
use Rattle.go_syntax.specs.declared.expression.Expr.{Expr}
use Rattle.go_syntax.specs.declared.name.Name.{Name}
use Rattle.go_cursor.specs.go_base.declared.operator.AssignOperator.{AssignOperator}
use Rattle.go_cursor.specs.go_base.declared.operator.StepOperator.{StepOperator}
use Rattle.go_syntax.specs.declared.body.BodyRange.{BodyRange}
use Rattle.go_syntax.specs.declared.statement.Case.{Case}
use Rattle.go_syntax.specs.declared.statement.SelectCase.{SelectCase}
use Rattle.go_syntax.specs.declared.statement.Stmt.{Stmt}
use Rattle.go_syntax.specs.declared.statement.StmtKind.{StmtKind}
use Rattle.go_syntax.specs.declared.statement.TypeCase.{TypeCase}
use Rattle.go_syntax.specs.declared.types.«Type».{«Type» as Typ}
use Rattle.go_syntax.specs.declared.token.TokenKind.{TokenKind}
use Rattle.go_syntax.specs.declared.token.TokenKind.TheVariants as kind
use Rattle.go_syntax.specs.grammar.Brackets.{IsRun, run_none, run_nest, no_bracket, IsSkipped, skipped}
use Rattle.go_syntax.specs.grammar.Declarations.{IsSpecs, specs_none, specs_more, IsGroup, group_one, group_specs, IsConstSpec, const_names, const_values, const_typed, IsVarSpec, var_type, var_values, var_typed}
use Rattle.go_syntax.specs.declared.statement.LiteralBlock.{LiteralBlock}
use Rattle.go_syntax.specs.grammar.ParsedBodies.{IsBody, body_of, LiteralBodies}
use Rattle.go_syntax.specs.grammar.Statements.{step_operator, assign_operator}
use Rattle.go_syntax.specs.grammar.Statements.{IsSimple, simple_expr, simple_send, simple_step, simple_assign, simple_operation, simple_define, IsClause, clause_none, clause_some, IsInit, init_none, init_empty, init_some, IsReceive, receive, receive_paren, IsCommunication, communication_send, communication_receive, communication_assign, communication_define, IsMoreTypes, types_none, types_more, IsLabel, label_none, label_some, IsBinding, binding_none, binding_some, IsBlock, block_of, IsStmts, stmts_none, stmts_more, stmts_last, IsStmt, stmt_at, IsStmtKind, stmt_empty, stmt_simple, stmt_const, stmt_var, stmt_labeled, stmt_go, stmt_defer, stmt_return_none, stmt_return, stmt_break, stmt_break_alone, stmt_continue, stmt_continue_alone, stmt_goto, stmt_fallthrough, stmt_block, stmt_if, stmt_switch, stmt_type_switch, stmt_select, stmt_while, stmt_for, stmt_range, stmt_range_assign, stmt_range_define, IsIf, if_alone, if_else_if, if_else, IsCases, cases_none, cases_values, cases_default, IsTypeCases, type_cases_none, type_cases_types, type_cases_default, IsSelectCases, select_cases_none, select_cases_communication, select_cases_default}
use Rattle.go_syntax.specs.grammar.Symbols.{Rule}
use Rattle.go_syntax.specs.grammar.Terminals.{Terminal}
use Rattle.go_descent.proofs.Balanced.{Balances, takes_run, takes_name_run, ends_run, nest_run, names_run, type_run, expr_run, exprs_run, optional_run, unary_run, primary_run}
use Rattle.go_cursor.proofs.Runs.{run_and}

step_plain : (k : TokenKind) (op : StepOperator) → step_operator k ≡ Some op → no_bracket k ≡ true
step_plain kind.LeftParen op e = absurd (cc)
step_plain kind.LeftBracket op e = absurd (cc)
step_plain kind.LeftBrace op e = absurd (cc)
step_plain kind.RightParen op e = absurd (cc)
step_plain kind.RightBracket op e = absurd (cc)
step_plain kind.RightBrace op e = absurd (cc)
step_plain _ op e = refl

assign_plain : (k : TokenKind) (op : AssignOperator) → assign_operator k ≡ Some op → no_bracket k ≡ true
assign_plain kind.LeftParen op e = absurd (cc)
assign_plain kind.LeftBracket op e = absurd (cc)
assign_plain kind.LeftBrace op e = absurd (cc)
assign_plain kind.RightParen op e = absurd (cc)
assign_plain kind.RightBracket op e = absurd (cc)
assign_plain kind.RightBrace op e = absurd (cc)
assign_plain _ op e = refl

module _ {A : Type 0} {X : Rule A} (item : (ts : List Terminal) (x : A) (rest : List Terminal) → X ts x rest → IsRun ts rest) where
  pub specs_run : {ts rest : List Terminal} {xs : List A} → IsSpecs X ts xs rest → IsRun ts rest
  specs_run specs_none = run_none
  specs_run (specs_more a b c) = run_and (item _ _ _ a) (run_and (ends_run b) (specs_run c))

  pub group_run : {ts rest : List Terminal} {xs : List A} → IsGroup X ts xs rest → IsRun ts rest
  group_run (group_one a) = item _ _ _ a
  group_run (group_specs a b c) = nest_run refl a (specs_run b) c

pub label_run : {ts : List Terminal} {a : Option Name} {rest : List Terminal} → IsLabel ts a rest → IsRun ts rest
label_run label_none = run_none
label_run (label_some a) = takes_name_run a

pub binding_run : {ts : List Terminal} {a : Option Name} {rest : List Terminal} → IsBinding ts a rest → IsRun ts rest
binding_run binding_none = run_none
binding_run (binding_some a b) = run_and (takes_name_run a) (takes_run refl b)

module _ {Body : ℕ → Rule BodyRange} (balanced : Balances Body) where
  pub const_spec_run : {h : ℕ} {ts : List Terminal} {a : ConstSpec} {rest : List Terminal} → IsConstSpec Body h ts a rest → IsRun ts rest
  const_spec_run (const_names a) = names_run a
  const_spec_run (const_values a b c) = run_and (names_run a) (run_and (takes_run refl b) (exprs_run balanced c))
  const_spec_run (const_typed a b c d) = run_and (names_run a) (run_and (type_run balanced b) (run_and (takes_run refl c) (exprs_run balanced d)))

  pub var_spec_run : {h : ℕ} {ts : List Terminal} {a : VarSpec} {rest : List Terminal} → IsVarSpec Body h ts a rest → IsRun ts rest
  var_spec_run (var_type a b) = run_and (names_run a) (type_run balanced b)
  var_spec_run (var_values a b c) = run_and (names_run a) (run_and (takes_run refl b) (exprs_run balanced c))
  var_spec_run (var_typed a b c d) = run_and (names_run a) (run_and (type_run balanced b) (run_and (takes_run refl c) (exprs_run balanced d)))

  pub simple_run : {b : Bool} {h : ℕ} {ts : List Terminal} {a : StmtKind} {rest : List Terminal} → IsSimple Body b h ts a rest → IsRun ts rest
  simple_run (simple_expr a) = expr_run balanced a
  simple_run (simple_send a b c) = run_and (expr_run balanced a) (run_and (takes_run refl b) (expr_run balanced c))
  simple_run (simple_step {k = k} {op = op} a b c) = run_and (expr_run balanced a) (takes_run (step_plain k op c) b)
  simple_run (simple_assign a b c) = run_and (exprs_run balanced a) (run_and (takes_run refl b) (exprs_run balanced c))
  simple_run (simple_operation {k = k} {op = op} a b c d) = run_and (expr_run balanced a) (run_and (takes_run (assign_plain k op c) b) (expr_run balanced d))
  simple_run (simple_define a b c) = run_and (names_run a) (run_and (takes_run refl b) (exprs_run balanced c))

  pub clause_run : {h : ℕ} {ts : List Terminal} {a : Option Stmt} {rest : List Terminal} → IsClause Body h ts a rest → IsRun ts rest
  clause_run clause_none = run_none
  clause_run (clause_some a) = simple_run a

  pub init_run : {h : ℕ} {ts : List Terminal} {a : Option Stmt} {rest : List Terminal} → IsInit Body h ts a rest → IsRun ts rest
  init_run init_none = run_none
  init_run (init_empty a) = takes_run refl a
  init_run (init_some a b) = run_and (simple_run a) (takes_run refl b)

  pub receive_run : {h : ℕ} {ts : List Terminal} {a : Expr} {rest : List Terminal} → IsReceive Body h ts a rest → IsRun ts rest
  receive_run (receive a b) = unary_run balanced b
  receive_run (receive_paren a b c) = nest_run refl a (receive_run b) c

  pub communication_run : {h : ℕ} {ts : List Terminal} {a : StmtKind} {rest : List Terminal} → IsCommunication Body h ts a rest → IsRun ts rest
  communication_run (communication_send a b c) = run_and (expr_run balanced a) (run_and (takes_run refl b) (expr_run balanced c))
  communication_run (communication_receive a) = receive_run a
  communication_run (communication_assign a b c) = run_and (exprs_run balanced a) (run_and (takes_run refl b) (receive_run c))
  communication_run (communication_define a b c) = run_and (names_run a) (run_and (takes_run refl b) (receive_run c))

  pub more_types_run : {h : ℕ} {ts : List Terminal} {a : List Typ} {rest : List Terminal} → IsMoreTypes Body h ts a rest → IsRun ts rest
  more_types_run types_none = run_none
  more_types_run (types_more a b c) = run_and (takes_run refl a) (run_and (type_run balanced b) (more_types_run c))

  mutual
    pub block_run : {h : ℕ} {ts : List Terminal} {a : List Stmt} {rest : List Terminal} → IsBlock Body h ts a rest → IsRun ts rest
    block_run (block_of a b c) = nest_run refl a (stmts_run b) c

    pub stmts_run : {h : ℕ} {ts : List Terminal} {a : List Stmt} {rest : List Terminal} → IsStmts Body h ts a rest → IsRun ts rest
    stmts_run stmts_none = run_none
    stmts_run (stmts_more a b c) = run_and (stmt_run a) (run_and (takes_run refl b) (stmts_run c))
    stmts_run (stmts_last a b c) = stmt_run a

    pub stmt_run : {h : ℕ} {ts : List Terminal} {a : Stmt} {rest : List Terminal} → IsStmt Body h ts a rest → IsRun ts rest
    stmt_run (stmt_at a) = stmt_kind_run a

    pub stmt_kind_run : {h : ℕ} {ts : List Terminal} {a : StmtKind} {rest : List Terminal} → IsStmtKind Body h ts a rest → IsRun ts rest
    stmt_kind_run stmt_empty = run_none
    stmt_kind_run (stmt_simple a) = simple_run a
    stmt_kind_run (stmt_const a b) = run_and (takes_run refl a) (group_run (λ w x v d. const_spec_run d) b)
    stmt_kind_run (stmt_var a b) = run_and (takes_run refl a) (group_run (λ w x v d. var_spec_run d) b)
    stmt_kind_run (stmt_labeled a b c) = run_and (takes_name_run a) (run_and (takes_run refl b) (stmt_run c))
    stmt_kind_run (stmt_go a b) = run_and (takes_run refl a) (expr_run balanced b)
    stmt_kind_run (stmt_defer a b) = run_and (takes_run refl a) (expr_run balanced b)
    stmt_kind_run (stmt_return_none a) = takes_run refl a
    stmt_kind_run (stmt_return a b) = run_and (takes_run refl a) (exprs_run balanced b)
    stmt_kind_run (stmt_break a b) = run_and (takes_run refl a) (label_run b)
    stmt_kind_run (stmt_break_alone a) = takes_run refl a
    stmt_kind_run (stmt_continue a b) = run_and (takes_run refl a) (label_run b)
    stmt_kind_run (stmt_continue_alone a) = takes_run refl a
    stmt_kind_run (stmt_goto a b) = run_and (takes_run refl a) (takes_name_run b)
    stmt_kind_run (stmt_fallthrough a) = takes_run refl a
    stmt_kind_run (stmt_block a) = block_run a
    stmt_kind_run (stmt_if a) = if_run a
    stmt_kind_run (stmt_switch a b c d e f) = run_and (takes_run refl a) (run_and (init_run b) (run_and (optional_run balanced c) (nest_run refl d (cases_run e) f)))
    stmt_kind_run (stmt_type_switch a b c d e f g i j k l) = run_and (takes_run refl a) (run_and (init_run b) (run_and (binding_run c) (run_and (primary_run balanced d) (run_and (takes_run refl e) (run_and (nest_run refl f (takes_run refl g) i) (nest_run refl j (type_cases_run k) l))))))
    stmt_kind_run (stmt_select a b c d) = run_and (takes_run refl a) (nest_run refl b (select_cases_run c) d)
    stmt_kind_run (stmt_while a b c) = run_and (takes_run refl a) (run_and (optional_run balanced b) (block_run c))
    stmt_kind_run (stmt_for a b c d e f g) = run_and (takes_run refl a) (run_and (clause_run b) (run_and (takes_run refl c) (run_and (optional_run balanced d) (run_and (takes_run refl e) (run_and (clause_run f) (block_run g))))))
    stmt_kind_run (stmt_range a b c d) = run_and (takes_run refl a) (run_and (takes_run refl b) (run_and (expr_run balanced c) (block_run d)))
    stmt_kind_run (stmt_range_assign a b c d e f) = run_and (takes_run refl a) (run_and (exprs_run balanced b) (run_and (takes_run refl c) (run_and (takes_run refl d) (run_and (expr_run balanced e) (block_run f)))))
    stmt_kind_run (stmt_range_define a b c d e f) = run_and (takes_run refl a) (run_and (names_run b) (run_and (takes_run refl c) (run_and (takes_run refl d) (run_and (expr_run balanced e) (block_run f)))))

    pub if_run : {h : ℕ} {ts : List Terminal} {a : StmtKind} {rest : List Terminal} → IsIf Body h ts a rest → IsRun ts rest
    if_run (if_alone a b c d) = run_and (takes_run refl a) (run_and (init_run b) (run_and (expr_run balanced c) (block_run d)))
    if_run (if_else_if a b c d e f) = run_and (takes_run refl a) (run_and (init_run b) (run_and (expr_run balanced c) (run_and (block_run d) (run_and (takes_run refl e) (if_run f)))))
    if_run (if_else a b c d e f) = run_and (takes_run refl a) (run_and (init_run b) (run_and (expr_run balanced c) (run_and (block_run d) (run_and (takes_run refl e) (block_run f)))))

    pub cases_run : {h : ℕ} {ts : List Terminal} {a : List Case} {rest : List Terminal} → IsCases Body h ts a rest → IsRun ts rest
    cases_run cases_none = run_none
    cases_run (cases_values a b c d e) = run_and (takes_run refl a) (run_and (exprs_run balanced b) (run_and (takes_run refl c) (run_and (stmts_run d) (cases_run e))))
    cases_run (cases_default a b c d) = run_and (takes_run refl a) (run_and (takes_run refl b) (run_and (stmts_run c) (cases_run d)))

    pub type_cases_run : {h : ℕ} {ts : List Terminal} {a : List TypeCase} {rest : List Terminal} → IsTypeCases Body h ts a rest → IsRun ts rest
    type_cases_run type_cases_none = run_none
    type_cases_run (type_cases_types a b c d e f) = run_and (takes_run refl a) (run_and (type_run balanced b) (run_and (more_types_run c) (run_and (takes_run refl d) (run_and (stmts_run e) (type_cases_run f)))))
    type_cases_run (type_cases_default a b c d) = run_and (takes_run refl a) (run_and (takes_run refl b) (run_and (stmts_run c) (type_cases_run d)))

    pub select_cases_run : {h : ℕ} {ts : List Terminal} {a : List SelectCase} {rest : List Terminal} → IsSelectCases Body h ts a rest → IsRun ts rest
    select_cases_run select_cases_none = run_none
    select_cases_run (select_cases_communication a b c d e) = run_and (takes_run refl a) (run_and (communication_run b) (run_and (takes_run refl c) (run_and (stmts_run d) (select_cases_run e))))
    select_cases_run (select_cases_default a b c d) = run_and (takes_run refl a) (run_and (takes_run refl b) (run_and (stmts_run c) (select_cases_run d)))

  pub body_run : {h : ℕ} {ts : List Terminal} {b : BodyRange} {ss : List Stmt} {rest : List Terminal} → IsBody Body h ts b ss rest → IsRun ts rest
  body_run (body_of start start_end end_start end d) = run_nest (start, start_end) (end_start, end) refl (stmts_run d) run_none

-- each body of a function literal is balanced, where its block stands in the list
pub literals_balance : (literals : List LiteralBlock) (n : ℕ) → Balances (LiteralBodies literals n)
literals_balance literals zero h ts b rest d = absurd d
literals_balance literals (suc n) h ts b rest d = body_run (literals_balance literals n) d.2

body_skipped : {Body : ℕ → Rule BodyRange} → Balances Body → {h : ℕ} {ts rest : List Terminal} {b : BodyRange} {ss : List Stmt} → IsBody Body h ts b ss rest → IsSkipped ts b rest
body_skipped balanced (body_of start start_end end_start end d) = skipped start start_end end_start end (stmts_run balanced d)

-- and so one that is skipped
pub literals_skipped : (literals : List LiteralBlock) (n h : ℕ) (ts : List Terminal) (b : BodyRange) (rest : List Terminal) → LiteralBodies literals n h ts b rest → IsSkipped ts b rest
literals_skipped literals zero h ts b rest d = absurd d
literals_skipped literals (suc n) h ts b rest d = body_skipped (literals_balance literals n) d.2
