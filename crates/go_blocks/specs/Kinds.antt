-- Statements that may declare names in the scope in which they stand.
-- Public source: Go specification, "Declarations and scope" and "Labeled statements".
use Rattle.std.specs.Prelude.{Bool, true, false}
use Rattle.go_statement_rules.specs.Statements.{KindLayer}
use Rattle.go_syntax.specs.declared.statement.StmtKind.{StmtKind-F}

abbrev pub is_declaring : KindLayer → Bool
is_declaring (StmtKind-F.Define ns xs) = true
is_declaring (StmtKind-F.Const specs) = true
is_declaring (StmtKind-F.Var specs) = true
is_declaring (StmtKind-F.Labeled n x) = true
is_declaring k = false
