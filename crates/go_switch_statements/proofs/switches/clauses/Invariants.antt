use Rattle.std.proofs.Common.{◌≡◌, take}
use Rattle.go_base.specs.Lists.{Each}
use Rattle.go_judged.specs.Judging.{Among, Judges}
use Rattle.go_local_scopes.specs.States.{IsAt}
use Rattle.go_switch_statements.specs.Casing.{IsTypedCase}
use Rattle.go_rules.specs.Environments.{Env}
use Rattle.go_statement_rules.specs.Scopes.{Scopes}
use Rattle.go_untyped_places.specs.Parts.{InCase}
use Rattle.go_walks.specs.Below.{blocks_of, enclosing_of}
use Rattle.go_switch_statements.proofs.switches.clauses.Given as goal

abbrev pub invariant-loop-case : goal.invariant-loop-case
invariant-loop-case g l =
    let B = blocks_of l.walk.frame.now in
    let r = enclosing_of l.walk.frame.now in
    record {
      same : l.env ≡ l.fn.env;
      judged : (E : Env) (s : Scopes) → IsAt E s l.fn.env → Judges E B (Each (IsTypedCase E B r s l.term) (take l.case-index l.cases)) (Among (InCase E B r s) (take l.case-index l.cases)) l.judged;
    }
