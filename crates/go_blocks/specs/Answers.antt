-- What is told of blocks.
-- Own: words of the contracts.
use Rattle.std.specs.Prelude.{ℕ, List, Option, None, Some, Result, Ok, Err}
use Rattle.go_base.specs.declared.memory.NoMemory.{NoMemory as Starved}
use Rattle.go_blocks.specs.declared.error.BlockError.{BlockError}
use Rattle.go_blocks.specs.declared.error.BlockError.TheVariants.{NoMemory, Untyped}
use Rattle.go_rules.specs.Environments.{Env}
use Rattle.go_statement_rules.specs.Functions.{Enclosing, run}
use Rattle.go_statement_rules.specs.Places.{IsUntypedPlace}
use Rattle.go_statement_rules.specs.Scopes.{Scopes, opened}
use Rattle.go_statement_rules.specs.Statements.{IsTypedBlock}
use Rattle.go_syntax.specs.declared.statement.LiteralBlock.{LiteralBlock}
use Rattle.go_syntax.specs.declared.statement.Stmt.{Stmt}

abbrev pub answer_by : Result (Option ℕ) Starved → Result (Unit {0}) BlockError
answer_by (Ok None) = Ok tt
answer_by (Ok (Some p)) = Err (Untyped p)
answer_by (Err e) = Err NoMemory

-- the statements of a block are typed in a scope of their own inside of these, or have this untyped place
abbrev pub FindsBlock : Env → List LiteralBlock → Enclosing → Scopes → List Stmt → Option ℕ → Type 0
FindsBlock E blocks r s ss None = IsTypedBlock E blocks r s ss
FindsBlock E blocks r s ss (Some p) = IsUntypedPlace E blocks (run r (opened s) ss) p

-- it is told
abbrev pub TellsBlock : Env → List LiteralBlock → Enclosing → Scopes → List Stmt → Result (Unit {0}) BlockError → Type 0
TellsBlock E blocks r s ss (Ok u) = IsTypedBlock E blocks r s ss
TellsBlock E blocks r s ss (Err (Untyped p)) = IsUntypedPlace E blocks (run r (opened s) ss) p
TellsBlock E blocks r s ss (Err NoMemory) = Unit {0}
