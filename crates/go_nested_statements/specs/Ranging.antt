-- Ranges whose values are assigned or declared.
-- Public source: Go specification, "For statements with range clause".
use Rattle.std.specs.Prelude.{◌≡◌, List, length, take}
use Rattle.go_clauses.specs.Clauses.{RangesOver, TakesValues}
use Rattle.go_model.specs.declared.types.term.Term.{Term}
use Rattle.go_rules.specs.Environments.{Env}
use Rattle.go_statement_rules.specs.Functions.{Enclosing, Run, run}
use Rattle.go_statement_rules.specs.Scopes.{Declares, Scopes, locals, opened}
use Rattle.go_statement_rules.specs.Statements.{IsTypedBlock, some_names}
use Rattle.go_syntax.specs.declared.expression.Expr.{Expr}
use Rattle.go_syntax.specs.declared.name.Name.{Name}
use Rattle.go_syntax.specs.declared.statement.LiteralBlock.{LiteralBlock}
use Rattle.go_syntax.specs.declared.statement.Stmt.{Stmt}

-- the sides are assigned what a range over the expression gives
abbrev pub AssignsRange : Env → List Expr → Expr → Type 0
AssignsRange E es e = (ts : List Term) × RangesOver E e ts × TakesValues E es ts

-- the names are declared for values of these types
abbrev pub Names : Scopes → List Name → List Term → Scopes → Type 0
Names s ns ts t = Declares s (some_names ns) (locals (take (length ns) ts)) t

-- the run of the block behind them
abbrev pub NamedRun : Enclosing → Scopes → List Name → List Term → List Stmt → Run → Type 0
NamedRun r s ns ts ss v = (t : Scopes) × Names s ns ts t × (v ≡ run r (opened t) ss)

-- the block is typed
abbrev pub IsTypedNamed : Env → List LiteralBlock → Enclosing → Scopes → List Name → List Term → List Stmt → Type 0
IsTypedNamed E blocks r s ns ts ss = (t : Scopes) × Names s ns ts t × IsTypedBlock E blocks r t ss
