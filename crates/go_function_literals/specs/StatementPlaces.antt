-- The function literals of a statement of a given height: for each one the range of its body, and the height that the body may
-- have, in the order in which they stand.
-- Public source: Go specification, "Function literals" and "Statements". Own: the height of the grammar.
--
-- A step says what one level of a statement gives at a height, where what each part gives stands in the part's place. A block has
-- one level more than its statements.
use Rattle.std.specs.Prelude.{List, [], ◌++◌, map, Option, Some, None}
use Rattle.go_function_literals.specs.Places.{Places, below, const_places, expr_places, exprs_places, joined, optional, optional_expr, types_places, var_places}
use Rattle.go_syntax.specs.declared.expression.Expr.{Expr}
use Rattle.go_syntax.specs.declared.statement.Case.{Case, Case-F, fold-Case}
use Rattle.go_syntax.specs.declared.statement.SelectCase.{SelectCase, SelectCase-F, fold-SelectCase}
use Rattle.go_syntax.specs.declared.statement.Stmt.{Stmt, Stmt-F, fold-Stmt}
use Rattle.go_syntax.specs.declared.statement.StmtKind.{StmtKind, StmtKind-F, fold-StmtKind}
use Rattle.go_syntax.specs.declared.statement.TypeCase.{TypeCase, TypeCase-F, fold-TypeCase}
use Rattle.go_syntax.specs.declared.types.«Type».{«Type» as Typ}

abbrev pub optional_exprs : Option (List Expr) → Places
optional_exprs None h = []
optional_exprs (Some xs) h = exprs_places xs h

abbrev pub optional_types : Option (List Typ) → Places
optional_types None h = []
optional_types (Some ts) h = types_places ts h

-- The steps

abbrev pub kind_step : StmtKind-F Places Places Places Places Places → Places
kind_step StmtKind-F.Empty h = []
kind_step (StmtKind-F.Expr x) h = expr_places x (below h)
kind_step (StmtKind-F.Send x y) h = expr_places x (below h) ++ expr_places y (below h)
kind_step (StmtKind-F.Step x operator) h = expr_places x (below h)
kind_step (StmtKind-F.Assign xs ys) h = exprs_places xs (below h) ++ exprs_places ys (below h)
kind_step (StmtKind-F.AssignOp x operator y) h = expr_places x (below h) ++ expr_places y (below h)
kind_step (StmtKind-F.Define names ys) h = exprs_places ys (below h)
kind_step (StmtKind-F.Const specs) h = joined (map const_places specs) (below h)
kind_step (StmtKind-F.Var specs) h = joined (map var_places specs) (below h)
kind_step (StmtKind-F.Labeled name stmt) h = stmt (below h)
kind_step (StmtKind-F.Go x) h = expr_places x (below h)
kind_step (StmtKind-F.Defer x) h = expr_places x (below h)
kind_step (StmtKind-F.Return xs) h = exprs_places xs (below h)
kind_step (StmtKind-F.Break name) h = []
kind_step (StmtKind-F.Continue name) h = []
kind_step (StmtKind-F.Goto name) h = []
kind_step StmtKind-F.Fallthrough h = []
kind_step (StmtKind-F.Block block) h = joined block (below h)
kind_step (StmtKind-F.If init x block other) h = optional init (below h) ++ (expr_places x (below h) ++ (joined block (below (below h)) ++ optional other (below h)))
kind_step (StmtKind-F.Switch init tag cases) h = optional init (below h) ++ (optional_expr tag (below h) ++ joined cases (below h))
kind_step (StmtKind-F.TypeSwitch init name x cases) h = optional init (below h) ++ (expr_places x (below h) ++ joined cases (below h))
kind_step (StmtKind-F.Select cases) h = joined cases (below h)
kind_step (StmtKind-F.For init x post block) h = optional init (below h) ++ (optional_expr x (below h) ++ (optional post (below h) ++ joined block (below (below h))))
kind_step (StmtKind-F.While x block) h = optional_expr x (below h) ++ joined block (below (below h))
kind_step (StmtKind-F.Range x block) h = expr_places x (below h) ++ joined block (below (below h))
kind_step (StmtKind-F.RangeAssign xs x block) h = exprs_places xs (below h) ++ (expr_places x (below h) ++ joined block (below (below h)))
kind_step (StmtKind-F.RangeDefine names x block) h = expr_places x (below h) ++ joined block (below (below h))

abbrev pub stmt_step : Stmt-F Places Places Places Places Places → Places
stmt_step s h = s.kind h

abbrev pub case_step : Case-F Places Places Places Places Places → Places
case_step c h = optional_exprs c.values h ++ joined c.body h

abbrev pub type_case_step : TypeCase-F Places Places Places Places Places → Places
type_case_step c h = optional_types c.types h ++ joined c.body h

abbrev pub select_case_step : SelectCase-F Places Places Places Places Places → Places
select_case_step c h = optional c.communication h ++ joined c.body h

-- What a statement gives: at each level its step, for all types that stand in one another

abbrev pub kind_places : StmtKind → Places
kind_places = fold-StmtKind Places Places Places Places Places kind_step case_step select_case_step stmt_step type_case_step

abbrev pub stmt_places : Stmt → Places
stmt_places = fold-Stmt Places Places Places Places Places kind_step case_step select_case_step stmt_step type_case_step

abbrev pub case_places : Case → Places
case_places = fold-Case Places Places Places Places Places kind_step case_step select_case_step stmt_step type_case_step

abbrev pub type_case_places : TypeCase → Places
type_case_places = fold-TypeCase Places Places Places Places Places kind_step case_step select_case_step stmt_step type_case_step

abbrev pub select_case_places : SelectCase → Places
select_case_places = fold-SelectCase Places Places Places Places Places kind_step case_step select_case_step stmt_step type_case_step

-- of statements, which have one level less than their block
abbrev pub stmts_places : List Stmt → Places
stmts_places ss = joined (map stmt_places ss)

abbrev pub cases_places : List Case → Places
cases_places cs = joined (map case_places cs)

abbrev pub type_cases_places : List TypeCase → Places
type_cases_places cs = joined (map type_case_places cs)

abbrev pub select_cases_places : List SelectCase → Places
select_cases_places cs = joined (map select_case_places cs)

abbrev pub optional_stmt : Option Stmt → Places
optional_stmt None h = []
optional_stmt (Some s) h = stmt_places s h
