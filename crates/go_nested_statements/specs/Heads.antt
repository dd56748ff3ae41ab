-- What stands in the header of a statement, and what is found in a statement from inside of the scope of its header.
-- Own: words of the contracts.
use Rattle.std.specs.Prelude.{◌⊎◌, Bool, true, false, List, Option, Result, IfOk}
use Rattle.go_base.specs.declared.memory.NoMemory.{NoMemory}
use Rattle.go_flat_statements.specs.Judging.{JudgesKind}
use Rattle.go_judged.specs.Judging.{both}
use Rattle.go_judged.specs.declared.judged.Judged.{Judged}
use Rattle.go_local_scopes.specs.States.{IsAt}
use Rattle.go_rules.specs.Environments.{Env}
use Rattle.go_rules.specs.Nodes.{Node}
use Rattle.go_rules.specs.Scopes.{Scopes as Known}
use Rattle.go_statement_rules.specs.Functions.{Enclosing, Run}
use Rattle.go_statement_rules.specs.Scopes.{Scopes, opened}
use Rattle.go_statement_rules.specs.Statements.{KindLayer}
use Rattle.go_syntax.specs.declared.statement.LiteralBlock.{LiteralBlock}
use Rattle.go_syntax.specs.declared.statement.Stmt.{Stmt}
use Rattle.go_untyped_places.specs.Parts.{InHeader, IsLone}
use Rattle.go_flat_statements.specs.go_walks.Below.{blocks_of, enclosing_of}
use Rattle.go_flat_statements.specs.go_walks.declared.frame.Frame.{Frame}

-- the statement of a header, and the function literals in the trees behind it
abbrev pub InHead : Env → List LiteralBlock → Enclosing → Scopes → Option Stmt → List Node → Run → Type 0
InHead E blocks r s init ns v = IsLone E blocks r (opened s) init v ⊎ InHeader E blocks r s init ns v

-- what is found in a statement, in the scope that was opened for its header
abbrev pub JudgesWithin : Frame → Known → KindLayer → Result Judged NoMemory → Type 0
JudgesWithin f old k r = IfOk r (λ j. (E : Env) (s : Scopes) → IsAt E (opened s) old → JudgesKind E (blocks_of f) (enclosing_of f) s k s j)

-- a block waits for what stands before it
abbrev pub behind : Bool → Judged → Judged → Judged
behind true a b = both a b
behind false a b = a

-- the block of a loop waits for the statement behind the condition
abbrev pub turned : Judged → Judged → Judged
turned after body = behind after.typed after body
