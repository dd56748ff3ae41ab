-- A statement that may be left out, in the scopes as they are.
-- Public source: Go specification, "If statements", "For statements" and "Switch statements".
use Rattle.std.specs.Prelude.{◌≡◌, List, Option, None, Some}
use Rattle.go_rules.specs.Environments.{Env}
use Rattle.go_statement_rules.specs.Functions.{Enclosing}
use Rattle.go_statement_rules.specs.Scopes.{Scopes}
use Rattle.go_statement_rules.specs.Statements.{Leaves, kind_of}
use Rattle.go_syntax.specs.declared.statement.LiteralBlock.{LiteralBlock}
use Rattle.go_syntax.specs.declared.statement.Stmt.{Stmt}

-- it is typed and leaves these scopes
abbrev pub Stays : Env → List LiteralBlock → Enclosing → Scopes → Option Stmt → Scopes → Type 0
Stays E blocks r s None t = t ≡ s
Stays E blocks r s (Some x) t = Leaves E blocks r s (kind_of x) t
