-- The grammar of statements, by cases, in the form of the types and expressions. A statement with parts has a height of 1
-- more than its highest part.
-- Public source: Go specification, "Statements".
use Rattle.std.specs.Prelude.{◌≡◌, ◌≢◌, ℕ, suc, Bool, true, false, List, [], ◌∷◌, Option, Some, None}
use Rattle.go_syntax.specs.declared.body.BodyRange.{BodyRange}
use Rattle.go_syntax.specs.declared.declaration.ConstSpec.{ConstSpec}
use Rattle.go_syntax.specs.declared.declaration.VarSpec.{VarSpec}
use Rattle.go_syntax.specs.declared.expression.Expr.{Expr}
use Rattle.go_syntax.specs.declared.expression.Expr.TheVariants as expr
use Rattle.go_syntax.specs.declared.name.Name.{Name}
use Rattle.go_base.specs.declared.operator.AssignOperator.{AssignOperator}
use Rattle.go_base.specs.declared.operator.AssignOperator.TheVariants as assign
use Rattle.go_base.specs.declared.operator.ProductOperator.TheVariants as product
use Rattle.go_base.specs.declared.operator.StepOperator.{StepOperator}
use Rattle.go_base.specs.declared.operator.StepOperator.TheVariants as step
use Rattle.go_base.specs.declared.operator.SumOperator.TheVariants as sum
use Rattle.go_syntax.specs.declared.statement.Case.{Case, roll-Case}
use Rattle.go_syntax.specs.declared.statement.SelectCase.{SelectCase, roll-SelectCase}
use Rattle.go_syntax.specs.declared.statement.Stmt.{Stmt, roll-Stmt}
use Rattle.go_syntax.specs.declared.statement.StmtKind.{StmtKind}
use Rattle.go_syntax.specs.declared.statement.StmtKind.TheVariants as stmt
use Rattle.go_syntax.specs.declared.statement.TypeCase.{TypeCase, roll-TypeCase}
use Rattle.go_syntax.specs.declared.types.«Type».{«Type» as Typ}
use Rattle.go_syntax.specs.declared.token.TokenKind.{TokenKind}
use Rattle.go_syntax.specs.declared.token.TokenKind.TheVariants as kind
use Rattle.go_syntax.specs.grammar.Declarations.{IsGroup, IsConstSpec, IsVarSpec}
use Rattle.go_syntax.specs.grammar.Grammar.{IsNames, IsType, IsExpr, IsOptional, IsExprs, IsUnary, IsPrimary}
use Rattle.go_syntax.specs.grammar.Symbols.{Rule, Takes, TakesName, closes}
use Rattle.go_syntax.specs.grammar.Terminals.{Terminal, Sign, Identifier, Basic}

-- the byte offset at which the terminals begin
abbrev pub start_of : List Terminal → ℕ
start_of (Sign k at ∷ ts) = at.0
start_of (Identifier n ∷ ts) = n.place
start_of (Basic l place ∷ ts) = place
start_of _ = 0

abbrev pub statement : ℕ → StmtKind → Stmt
statement start kind = roll-Stmt (record { start = start; kind = kind })

abbrev pub step_operator : TokenKind → Option StepOperator
step_operator kind.Increment = Some step.Increment
step_operator kind.Decrement = Some step.Decrement
step_operator _ = None

abbrev pub assign_operator : TokenKind → Option AssignOperator
assign_operator kind.AddAssign = Some (assign.Sum sum.Add)
assign_operator kind.SubtractAssign = Some (assign.Sum sum.Subtract)
assign_operator kind.OrAssign = Some (assign.Sum sum.Or)
assign_operator kind.XorAssign = Some (assign.Sum sum.Xor)
assign_operator kind.MultiplyAssign = Some (assign.Product product.Multiply)
assign_operator kind.DivideAssign = Some (assign.Product product.Divide)
assign_operator kind.RemainderAssign = Some (assign.Product product.Remainder)
assign_operator kind.ShiftLeftAssign = Some (assign.Product product.ShiftLeft)
assign_operator kind.ShiftRightAssign = Some (assign.Product product.ShiftRight)
assign_operator kind.AndAssign = Some (assign.Product product.And)
assign_operator kind.AndNotAssign = Some (assign.Product product.AndNot)
assign_operator _ = None

-- Simple
pub data IsSimple (Body : ℕ → Rule BodyRange) : Bool → ℕ → List Terminal → StmtKind → List Terminal → Type 0 where
  simple_expr : {b : Bool} {h : ℕ} {ts rest : List Terminal} {x : Expr} → IsExpr Body b h ts x rest → IsSimple Body b (suc h) ts (stmt.Expr x) rest
  simple_send : {b : Bool} {h : ℕ} {ts u v rest : List Terminal} {x y : Expr} → IsExpr Body b h ts x u → Takes kind.Arrow u v → IsExpr Body b h v y rest → IsSimple Body b (suc h) ts (stmt.Send x y) rest
  simple_step : {b : Bool} {h : ℕ} {ts u rest : List Terminal} {k : TokenKind} {op : StepOperator} {x : Expr} → IsExpr Body b h ts x u → Takes k u rest → step_operator k ≡ Some op → IsSimple Body b (suc h) ts (stmt.Step x op) rest
  simple_assign : {b : Bool} {h : ℕ} {ts u v rest : List Terminal} {xs ys : List Expr} → IsExprs Body b h ts xs u → Takes kind.Assign u v → IsExprs Body b h v ys rest → IsSimple Body b (suc h) ts (stmt.Assign xs ys) rest
  simple_operation : {b : Bool} {h : ℕ} {ts u v rest : List Terminal} {k : TokenKind} {op : AssignOperator} {x y : Expr} → IsExpr Body b h ts x u → Takes k u v → assign_operator k ≡ Some op → IsExpr Body b h v y rest → IsSimple Body b (suc h) ts (stmt.AssignOp x op y) rest
  simple_define : {b : Bool} {h : ℕ} {ts u v rest : List Terminal} {ns : List Name} {xs : List Expr} → IsNames ts ns u → Takes kind.Define u v → IsExprs Body b h v xs rest → IsSimple Body b (suc h) ts (stmt.Define ns xs) rest

-- [ Simple ], as a statement; in a header
pub data IsClause (Body : ℕ → Rule BodyRange) : ℕ → List Terminal → Option Stmt → List Terminal → Type 0 where
  clause_none : {h : ℕ} {ts : List Terminal} → IsClause Body h ts None ts
  clause_some : {h : ℕ} {ts rest : List Terminal} {k : StmtKind} → IsSimple Body false h ts k rest → IsClause Body h ts (Some (statement (start_of ts) k)) rest

-- [ [ Simple ] ";" ], where a semicolon alone stands after an empty statement
pub data IsInit (Body : ℕ → Rule BodyRange) : ℕ → List Terminal → Option Stmt → List Terminal → Type 0 where
  init_none : {h : ℕ} {ts : List Terminal} → IsInit Body h ts None ts
  init_empty : {h : ℕ} {ts rest : List Terminal} → Takes kind.Semicolon ts rest → IsInit Body h ts (Some (statement (start_of ts) stmt.Empty)) rest
  init_some : {h : ℕ} {ts u rest : List Terminal} {k : StmtKind} → IsSimple Body false h ts k u → Takes kind.Semicolon u rest → IsInit Body h ts (Some (statement (start_of ts) k)) rest

-- what a case of a select waits for: a send, or a receive alone or on the right of `=` or `:=`. A receive may stand in parentheses
pub data IsReceive (Body : ℕ → Rule BodyRange) : ℕ → List Terminal → Expr → List Terminal → Type 0 where
  receive : {h : ℕ} {ts u rest : List Terminal} {x : Expr} → Takes kind.Arrow ts u → IsUnary Body true h ts x rest → IsReceive Body h ts x rest
  receive_paren : {h : ℕ} {ts u v rest : List Terminal} {x : Expr} → Takes kind.LeftParen ts u → IsReceive Body h u x v → Takes kind.RightParen v rest → IsReceive Body (suc h) ts (expr.Paren x) rest

pub data IsCommunication (Body : ℕ → Rule BodyRange) : ℕ → List Terminal → StmtKind → List Terminal → Type 0 where
  communication_send : {h : ℕ} {ts u v rest : List Terminal} {x y : Expr} → IsExpr Body true h ts x u → Takes kind.Arrow u v → IsExpr Body true h v y rest → IsCommunication Body (suc h) ts (stmt.Send x y) rest
  communication_receive : {h : ℕ} {ts rest : List Terminal} {x : Expr} → IsReceive Body h ts x rest → IsCommunication Body (suc h) ts (stmt.Expr x) rest
  communication_assign : {h : ℕ} {ts u v rest : List Terminal} {xs : List Expr} {x : Expr} → IsExprs Body true h ts xs u → Takes kind.Assign u v → IsReceive Body h v x rest → IsCommunication Body (suc h) ts (stmt.Assign xs (x ∷ [])) rest
  communication_define : {h : ℕ} {ts u v rest : List Terminal} {ns : List Name} {x : Expr} → IsNames ts ns u → Takes kind.Define u v → IsReceive Body h v x rest → IsCommunication Body (suc h) ts (stmt.Define ns (x ∷ [])) rest

-- List(Type)
pub data IsMoreTypes (Body : ℕ → Rule BodyRange) : ℕ → List Terminal → List Typ → List Terminal → Type 0 where
  types_none : {h : ℕ} {ts : List Terminal} → IsMoreTypes Body h ts [] ts
  types_more : {h : ℕ} {ts u v rest : List Terminal} {t : Typ} {more : List Typ} → Takes kind.Comma ts u → IsType Body h u t v → IsMoreTypes Body h v more rest → IsMoreTypes Body h ts (t ∷ more) rest

-- [ Name ]
pub data IsLabel : List Terminal → Option Name → List Terminal → Type 0 where
  label_none : {ts : List Terminal} → IsLabel ts None ts
  label_some : {ts rest : List Terminal} {n : Name} → TakesName n ts rest → IsLabel ts (Some n) rest

-- [ Name ":=" ]
pub data IsBinding : List Terminal → Option Name → List Terminal → Type 0 where
  binding_none : {ts : List Terminal} → IsBinding ts None ts
  binding_some : {ts u rest : List Terminal} {n : Name} → TakesName n ts u → Takes kind.Define u rest → IsBinding ts (Some n) rest

mutual
  -- Block = "{" { Stmt ";" } "}"
  pub data IsBlock (Body : ℕ → Rule BodyRange) : ℕ → List Terminal → List Stmt → List Terminal → Type 0 where
    block_of : {h : ℕ} {ts u v rest : List Terminal} {ss : List Stmt} → Takes kind.LeftBrace ts u → IsStmts Body h u ss v → Takes kind.RightBrace v rest → IsBlock Body (suc h) ts ss rest

  -- { Stmt ";" }, where the last `;` may be missing unless the statement has no token
  pub data IsStmts (Body : ℕ → Rule BodyRange) : ℕ → List Terminal → List Stmt → List Terminal → Type 0 where
    stmts_none : {h : ℕ} {ts : List Terminal} → IsStmts Body h ts [] ts
    stmts_more : {h : ℕ} {ts u v rest : List Terminal} {s : Stmt} {ss : List Stmt} → IsStmt Body h ts s u → Takes kind.Semicolon u v → IsStmts Body h v ss rest → IsStmts Body h ts (s ∷ ss) rest
    stmts_last : {h : ℕ} {ts rest : List Terminal} {s : Stmt} → IsStmt Body h ts s rest → ts ≢ rest → closes rest ≡ true → IsStmts Body h ts (s ∷ []) rest

  pub data IsStmt (Body : ℕ → Rule BodyRange) : ℕ → List Terminal → Stmt → List Terminal → Type 0 where
    stmt_at : {h : ℕ} {ts rest : List Terminal} {k : StmtKind} → IsStmtKind Body h ts k rest → IsStmt Body h ts (statement (start_of ts) k) rest

  -- Stmt
  pub data IsStmtKind (Body : ℕ → Rule BodyRange) : ℕ → List Terminal → StmtKind → List Terminal → Type 0 where
    stmt_empty : {h : ℕ} {ts : List Terminal} → IsStmtKind Body h ts stmt.Empty ts
    stmt_simple : {h : ℕ} {ts rest : List Terminal} {k : StmtKind} → IsSimple Body true h ts k rest → IsStmtKind Body h ts k rest
    stmt_const : {h : ℕ} {ts u rest : List Terminal} {specs : List ConstSpec} → Takes kind.ConstWord ts u → IsGroup (IsConstSpec Body h) u specs rest → IsStmtKind Body (suc h) ts (stmt.Const specs) rest
    stmt_var : {h : ℕ} {ts u rest : List Terminal} {specs : List VarSpec} → Takes kind.VarWord ts u → IsGroup (IsVarSpec Body h) u specs rest → IsStmtKind Body (suc h) ts (stmt.Var specs) rest
    stmt_labeled : {h : ℕ} {ts u v rest : List Terminal} {n : Name} {s : Stmt} → TakesName n ts u → Takes kind.Colon u v → IsStmt Body h v s rest → IsStmtKind Body (suc h) ts (stmt.Labeled n s) rest
    stmt_go : {h : ℕ} {ts u rest : List Terminal} {x : Expr} → Takes kind.GoWord ts u → IsExpr Body true h u x rest → IsStmtKind Body (suc h) ts (stmt.Go x) rest
    stmt_defer : {h : ℕ} {ts u rest : List Terminal} {x : Expr} → Takes kind.DeferWord ts u → IsExpr Body true h u x rest → IsStmtKind Body (suc h) ts (stmt.Defer x) rest
    stmt_return_none : {h : ℕ} {ts rest : List Terminal} → Takes kind.ReturnWord ts rest → IsStmtKind Body h ts (stmt.Return []) rest
    stmt_return : {h : ℕ} {ts u rest : List Terminal} {xs : List Expr} → Takes kind.ReturnWord ts u → IsExprs Body true h u xs rest → IsStmtKind Body (suc h) ts (stmt.Return xs) rest
    stmt_break : {h : ℕ} {ts u rest : List Terminal} {n : Option Name} → Takes kind.BreakWord ts u → IsLabel u n rest → IsStmtKind Body (suc h) ts (stmt.Break n) rest
    stmt_break_alone : {h : ℕ} {ts rest : List Terminal} → Takes kind.BreakWord ts rest → IsStmtKind Body h ts (stmt.Break None) rest
    stmt_continue : {h : ℕ} {ts u rest : List Terminal} {n : Option Name} → Takes kind.ContinueWord ts u → IsLabel u n rest → IsStmtKind Body (suc h) ts (stmt.Continue n) rest
    stmt_continue_alone : {h : ℕ} {ts rest : List Terminal} → Takes kind.ContinueWord ts rest → IsStmtKind Body h ts (stmt.Continue None) rest
    stmt_goto : {h : ℕ} {ts u rest : List Terminal} {n : Name} → Takes kind.GotoWord ts u → TakesName n u rest → IsStmtKind Body (suc h) ts (stmt.Goto n) rest
    stmt_fallthrough : {h : ℕ} {ts rest : List Terminal} → Takes kind.FallthroughWord ts rest → IsStmtKind Body h ts stmt.Fallthrough rest
    stmt_block : {h : ℕ} {ts rest : List Terminal} {ss : List Stmt} → IsBlock Body h ts ss rest → IsStmtKind Body h ts (stmt.Block ss) rest
    stmt_if : {h : ℕ} {ts rest : List Terminal} {k : StmtKind} → IsIf Body h ts k rest → IsStmtKind Body h ts k rest
    stmt_switch : {h : ℕ} {ts u v w y z rest : List Terminal} {init : Option Stmt} {tag : Option Expr} {cases : List Case} → Takes kind.SwitchWord ts u → IsInit Body h u init v → IsOptional Body false h v tag w → Takes kind.LeftBrace w y → IsCases Body h y cases z → Takes kind.RightBrace z rest → IsStmtKind Body (suc h) ts (stmt.Switch init tag cases) rest
    stmt_type_switch : {h : ℕ} {ts u v w y z m o p q r rest : List Terminal} {init : Option Stmt} {n : Option Name} {x : Expr} {cases : List TypeCase} → Takes kind.SwitchWord ts u → IsInit Body h u init v → IsBinding v n w → IsPrimary Body false h w x y → Takes kind.Period y z → Takes kind.LeftParen z m → Takes kind.TypeWord m o → Takes kind.RightParen o p → Takes kind.LeftBrace p q → IsTypeCases Body h q cases r → Takes kind.RightBrace r rest → IsStmtKind Body (suc h) ts (stmt.TypeSwitch init n x cases) rest
    stmt_select : {h : ℕ} {ts u v w rest : List Terminal} {cases : List SelectCase} → Takes kind.SelectWord ts u → Takes kind.LeftBrace u v → IsSelectCases Body h v cases w → Takes kind.RightBrace w rest → IsStmtKind Body (suc h) ts (stmt.Select cases) rest
    stmt_while : {h : ℕ} {ts u v rest : List Terminal} {x : Option Expr} {ss : List Stmt} → Takes kind.ForWord ts u → IsOptional Body false h u x v → IsBlock Body h v ss rest → IsStmtKind Body (suc h) ts (stmt.While x ss) rest
    stmt_for : {h : ℕ} {ts u v w y z m rest : List Terminal} {init post : Option Stmt} {x : Option Expr} {ss : List Stmt} → Takes kind.ForWord ts u → IsClause Body h u init v → Takes kind.Semicolon v w → IsOptional Body false h w x y → Takes kind.Semicolon y z → IsClause Body h z post m → IsBlock Body h m ss rest → IsStmtKind Body (suc h) ts (stmt.For init x post ss) rest
    stmt_range : {h : ℕ} {ts u v w rest : List Terminal} {x : Expr} {ss : List Stmt} → Takes kind.ForWord ts u → Takes kind.RangeWord u v → IsExpr Body false h v x w → IsBlock Body h w ss rest → IsStmtKind Body (suc h) ts (stmt.Range x ss) rest
    stmt_range_assign : {h : ℕ} {ts u v w y z rest : List Terminal} {xs : List Expr} {x : Expr} {ss : List Stmt} → Takes kind.ForWord ts u → IsExprs Body false h u xs v → Takes kind.Assign v w → Takes kind.RangeWord w y → IsExpr Body false h y x z → IsBlock Body h z ss rest → IsStmtKind Body (suc h) ts (stmt.RangeAssign xs x ss) rest
    stmt_range_define : {h : ℕ} {ts u v w y z rest : List Terminal} {ns : List Name} {x : Expr} {ss : List Stmt} → Takes kind.ForWord ts u → IsNames u ns v → Takes kind.Define v w → Takes kind.RangeWord w y → IsExpr Body false h y x z → IsBlock Body h z ss rest → IsStmtKind Body (suc h) ts (stmt.RangeDefine ns x ss) rest

  -- If = "if" [ [ Simple ] ";" ] Expr Block [ "else" ( If | Block ) ]
  pub data IsIf (Body : ℕ → Rule BodyRange) : ℕ → List Terminal → StmtKind → List Terminal → Type 0 where
    if_alone : {h : ℕ} {ts u v w rest : List Terminal} {init : Option Stmt} {x : Expr} {ss : List Stmt} → Takes kind.IfWord ts u → IsInit Body h u init v → IsExpr Body false h v x w → IsBlock Body h w ss rest → IsIf Body (suc h) ts (stmt.If init x ss None) rest
    if_else_if : {h : ℕ} {ts u v w y z rest : List Terminal} {init : Option Stmt} {x : Expr} {ss : List Stmt} {k : StmtKind} → Takes kind.IfWord ts u → IsInit Body h u init v → IsExpr Body false h v x w → IsBlock Body h w ss y → Takes kind.ElseWord y z → IsIf Body h z k rest → IsIf Body (suc h) ts (stmt.If init x ss (Some (statement (start_of z) k))) rest
    if_else : {h : ℕ} {ts u v w y z rest : List Terminal} {init : Option Stmt} {x : Expr} {ss other : List Stmt} → Takes kind.IfWord ts u → IsInit Body h u init v → IsExpr Body false h v x w → IsBlock Body h w ss y → Takes kind.ElseWord y z → IsBlock Body h z other rest → IsIf Body (suc h) ts (stmt.If init x ss (Some (statement (start_of z) (stmt.Block other)))) rest

  -- { Case }, where Case = ( "case" List(Expr) | "default" ) ":" { Stmt ";" }
  pub data IsCases (Body : ℕ → Rule BodyRange) : ℕ → List Terminal → List Case → List Terminal → Type 0 where
    cases_none : {h : ℕ} {ts : List Terminal} → IsCases Body h ts [] ts
    cases_values : {h : ℕ} {ts u v w y rest : List Terminal} {xs : List Expr} {ss : List Stmt} {more : List Case} → Takes kind.CaseWord ts u → IsExprs Body true h u xs v → Takes kind.Colon v w → IsStmts Body h w ss y → IsCases Body h y more rest → IsCases Body h ts (roll-Case (record { values = Some xs; body = ss }) ∷ more) rest
    cases_default : {h : ℕ} {ts u v w rest : List Terminal} {ss : List Stmt} {more : List Case} → Takes kind.DefaultWord ts u → Takes kind.Colon u v → IsStmts Body h v ss w → IsCases Body h w more rest → IsCases Body h ts (roll-Case (record { values = None; body = ss }) ∷ more) rest

  -- { TCase }, where TCase = ( "case" List(Type) | "default" ) ":" { Stmt ";" }
  pub data IsTypeCases (Body : ℕ → Rule BodyRange) : ℕ → List Terminal → List TypeCase → List Terminal → Type 0 where
    type_cases_none : {h : ℕ} {ts : List Terminal} → IsTypeCases Body h ts [] ts
    type_cases_types : {h : ℕ} {ts u v w y z rest : List Terminal} {t : Typ} {types : List Typ} {ss : List Stmt} {more : List TypeCase} → Takes kind.CaseWord ts u → IsType Body h u t v → IsMoreTypes Body h v types w → Takes kind.Colon w y → IsStmts Body h y ss z → IsTypeCases Body h z more rest → IsTypeCases Body h ts (roll-TypeCase (record { types = Some (t ∷ types); body = ss }) ∷ more) rest
    type_cases_default : {h : ℕ} {ts u v w rest : List Terminal} {ss : List Stmt} {more : List TypeCase} → Takes kind.DefaultWord ts u → Takes kind.Colon u v → IsStmts Body h v ss w → IsTypeCases Body h w more rest → IsTypeCases Body h ts (roll-TypeCase (record { types = None; body = ss }) ∷ more) rest

  -- { SCase }, where SCase = ( "case" Simple | "default" ) ":" { Stmt ";" }
  pub data IsSelectCases (Body : ℕ → Rule BodyRange) : ℕ → List Terminal → List SelectCase → List Terminal → Type 0 where
    select_cases_none : {h : ℕ} {ts : List Terminal} → IsSelectCases Body h ts [] ts
    select_cases_communication : {h : ℕ} {ts u v w y rest : List Terminal} {k : StmtKind} {ss : List Stmt} {more : List SelectCase} → Takes kind.CaseWord ts u → IsCommunication Body h u k v → Takes kind.Colon v w → IsStmts Body h w ss y → IsSelectCases Body h y more rest → IsSelectCases Body h ts (roll-SelectCase (record { communication = Some (statement (start_of u) k); body = ss }) ∷ more) rest
    select_cases_default : {h : ℕ} {ts u v w rest : List Terminal} {ss : List Stmt} {more : List SelectCase} → Takes kind.DefaultWord ts u → Takes kind.Colon u v → IsStmts Body h v ss w → IsSelectCases Body h w more rest → IsSelectCases Body h ts (roll-SelectCase (record { communication = None; body = ss }) ∷ more) rest
