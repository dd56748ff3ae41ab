-- Statements that have no statement in them and declare nothing, and what is asked in them, but for the blocks of function literals.
-- Public source: Go specification, "Statements".
use Rattle.std.specs.Prelude.{Bool, true, false, List}
use Rattle.go_assignments.specs.Simple.{Assigns, CallsAlone, GivesResults, OperatesOn, Sends, StandsAlone, Steps}
use Rattle.go_model.specs.declared.types.term.Term.{Term}
use Rattle.go_rules.specs.Environments.{Env}
use Rattle.go_statement_rules.specs.Statements.{KindLayer}
use Rattle.go_syntax.specs.declared.statement.StmtKind.{StmtKind-F}

abbrev pub is_flat : KindLayer → Bool
is_flat StmtKind-F.Empty = true
is_flat (StmtKind-F.Expr e) = true
is_flat (StmtKind-F.Send e x) = true
is_flat (StmtKind-F.Step e op) = true
is_flat (StmtKind-F.Assign es xs) = true
is_flat (StmtKind-F.AssignOp e op x) = true
is_flat (StmtKind-F.Go e) = true
is_flat (StmtKind-F.Defer e) = true
is_flat (StmtKind-F.Return es) = true
is_flat (StmtKind-F.Break n) = true
is_flat (StmtKind-F.Continue n) = true
is_flat (StmtKind-F.Goto n) = true
is_flat StmtKind-F.Fallthrough = true
is_flat k = false

-- what is asked in it is met, in a function with these results
abbrev pub Fits : Env → List Term → KindLayer → Type 0
Fits E results (StmtKind-F.Expr e) = StandsAlone E e
Fits E results (StmtKind-F.Send e x) = Sends E e x
Fits E results (StmtKind-F.Step e op) = Steps E op e
Fits E results (StmtKind-F.Assign es xs) = Assigns E es xs
Fits E results (StmtKind-F.AssignOp e op x) = OperatesOn E op e x
Fits E results (StmtKind-F.Go e) = CallsAlone E e
Fits E results (StmtKind-F.Defer e) = CallsAlone E e
Fits E results (StmtKind-F.Return es) = GivesResults E results es
Fits E results k = Unit {0}
