-- What a function value that types statements inside of others ensures.
-- Own: words of the contracts.
use Rattle.std.specs.Prelude.{◌≢◌, ℕ, List, [], Option, Result, IfOk}
use denote.Ref.{Bor, MutBor}
use Rattle.go_base.specs.declared.memory.NoMemory.{NoMemory}
use Rattle.go_judged.specs.Judging.{Finds}
use Rattle.go_local_scopes.specs.States.{IsAt, Kept}
use Rattle.go_rules.specs.Environments.{Env}
use Rattle.go_rules.specs.Scopes.{Scopes as Known}
use Rattle.go_statement_rules.specs.Functions.{Enclosing}
use Rattle.go_statement_rules.specs.Scopes.{Scopes}
use Rattle.go_syntax.specs.declared.statement.LiteralBlock.{LiteralBlock}
use Rattle.go_syntax.specs.declared.statement.Stmt.{Stmt}
use Rattle.go_walks.specs.Inners.{statements_in}
use Rattle.go_walks.specs.declared.frame.Frame.{Frame}
use Rattle.go_walks.specs.declared.inner.Inner.{Inner}

-- the function round a statement
abbrev pub enclosing_of : Frame → Enclosing
enclosing_of f = record { results = f.results.now; first = f.first }

-- the blocks of bodies and function literals
abbrev pub blocks_of : Frame → List LiteralBlock
blocks_of f = f.blocks.now.list.now

-- statements of the function are typed, or have this place, wherever the environment stands
abbrev pub Runs : Frame → Known → List Stmt → Result (Option ℕ) NoMemory → Known → Type 0
Runs f old ss r new = IfOk r (λ p. (E : Env) (s : Scopes) → IsAt E s old → Finds E (blocks_of f) (enclosing_of f) s ss new.opened p)

-- the function value can be called where a scope is open, and types statements to this depth
pub record RunsBelow (height : ℕ) (pre : MutBor Known → Bor Frame → ℕ → Inner → Type 0)
    (post : MutBor Known → Bor Frame → ℕ → Inner → Result (Option ℕ) NoMemory → MutBor Known → Type 0) : Type 0 where
  pub callable : (old : MutBor Known) (f : Bor Frame) (ss : Inner) → old.now.opened ≢ [] → pre old f height ss
  pub kept : (old new : MutBor Known) (f : Bor Frame) (ss : Inner) (r : Result (Option ℕ) NoMemory) → post old f height ss r new → Kept old.now new.now
  pub runs : (old new : MutBor Known) (f : Bor Frame) (ss : Inner) (r : Result (Option ℕ) NoMemory) → post old f height ss r new → Runs f.now old.now (statements_in ss) r new.now
