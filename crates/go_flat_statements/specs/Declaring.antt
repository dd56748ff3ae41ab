-- What is found in the specs of a declaration in a function.
-- Own: words of the contracts.
use Rattle.std.specs.Prelude.{List, [], ◌∷◌, Result, IfOk}
use Rattle.go_base.specs.declared.memory.NoMemory.{NoMemory}
use Rattle.go_judged.specs.Judging.{JudgesTo}
use Rattle.go_judged.specs.declared.judged.Judged.{Judged}
use Rattle.go_local_scopes.specs.States.{IsAt}
use Rattle.go_rules.specs.Environments.{Env}
use Rattle.go_rules.specs.Scopes.{Scopes as Known}
use Rattle.go_statement_rules.specs.Scopes.{Scopes}
use Rattle.go_statement_rules.specs.Statements.{AreDeclared}
use Rattle.go_typings.specs.DeclarationNodes.{nodes}
use Rattle.go_typings.specs.Declarations.{Form}
use Rattle.go_untyped_places.specs.LiteralRuns.{IsLiteralRun}
use Rattle.go_untyped_places.specs.Parts.{InSpecs}
use Rattle.go_walks.specs.Below.{blocks_of, enclosing_of}
use Rattle.go_walks.specs.declared.frame.Frame.{Frame}

-- one spec
abbrev pub JudgesSpec : Frame → Known → Form → Known → Result Judged NoMemory → Type 0
JudgesSpec w old f new r = IfOk r (λ j. (E : Env) (s : Scopes) → IsAt E s old → JudgesTo E (blocks_of w) (AreDeclared E (blocks_of w) (enclosing_of w) s (f ∷ [])) new.opened (IsLiteralRun E (blocks_of w) (enclosing_of w) s (nodes f)) j)

-- specs one after another
abbrev pub JudgesSpecs : Frame → Known → List Form → Known → Result Judged NoMemory → Type 0
JudgesSpecs w old fs new r = IfOk r (λ j. (E : Env) (s : Scopes) → IsAt E s old → JudgesTo E (blocks_of w) (AreDeclared E (blocks_of w) (enclosing_of w) s fs) new.opened (InSpecs E (blocks_of w) (enclosing_of w) s fs) j)
