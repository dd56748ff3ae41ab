-- What is found in a statement, wherever the environment stands.
-- Own: words of the contracts.
use Rattle.std.specs.Prelude.{List, Result, IfOk}
use Rattle.go_base.specs.declared.memory.NoMemory.{NoMemory}
use Rattle.go_judged.specs.Judging.{JudgesTo}
use Rattle.go_judged.specs.declared.judged.Judged.{Judged}
use Rattle.go_local_scopes.specs.States.{IsAt}
use Rattle.go_rules.specs.Environments.{Env}
use Rattle.go_rules.specs.Scopes.{Scopes as Known}
use Rattle.go_statement_rules.specs.Functions.{Enclosing}
use Rattle.go_statement_rules.specs.Scopes.{Scopes}
use Rattle.go_statement_rules.specs.Statements.{KindLayer, Leaves}
use Rattle.go_syntax.specs.declared.statement.LiteralBlock.{LiteralBlock}
use Rattle.go_untyped_places.specs.Parts.{IsPart}
use Rattle.go_walks.specs.Below.{blocks_of, enclosing_of}
use Rattle.go_walks.specs.declared.frame.Frame.{Frame}

-- whether a statement of this kind is typed and leaves these scopes, and the least untyped place inside of it
abbrev pub JudgesKind : Env → List LiteralBlock → Enclosing → Scopes → KindLayer → Scopes → Judged → Type 0
JudgesKind E blocks r s k t j = JudgesTo E blocks (Leaves E blocks r s k) t (IsPart E blocks r s k) j

-- the same in the scopes of an environment, which has those that are left then
abbrev pub JudgesStatement : Frame → Known → KindLayer → Known → Result Judged NoMemory → Type 0
JudgesStatement f old k new r = IfOk r (λ j. (E : Env) (s : Scopes) → IsAt E s old → JudgesKind E (blocks_of f) (enclosing_of f) s k new.opened j)

-- the same of one that leaves the scopes as they are
abbrev pub JudgesHere : Frame → Known → KindLayer → Result Judged NoMemory → Type 0
JudgesHere f old k r = IfOk r (λ j. (E : Env) (s : Scopes) → IsAt E s old → JudgesKind E (blocks_of f) (enclosing_of f) s k s j)
