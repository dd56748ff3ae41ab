use Rattle.go_judged.proofs.Joining.{judged_same}
use Rattle.go_judged.specs.Judging.{found}
use Rattle.go_statement_rules.specs.Functions.{run}
use Rattle.go_statement_rules.specs.Scopes.{opened}
use Rattle.go_statement_rules.specs.Statements.{IsTypedBlock}
use Rattle.go_walks.proofs.InnerRuns.{block_found}
use Rattle.go_walks.specs.Below.{blocks_of, enclosing_of}
use Rattle.std.proofs.Common.{◌≡◌}
use Rattle.go_walks.proofs.walk.Walk.statements.Goals as goal

pub returns-clause-judged : goal.returns-clause-judged
returns-clause-judged g c = λ E s at.
    let w = c.args.self.now.frame.now in
    let B = blocks_of w in
    let r = enclosing_of w in
    let ss = c.args.statements.now in
    let p = c.in_ok-place.place in
    judged_same E B (IsTypedBlock E B r s ss) (λ v. v ≡ run r (opened s) ss) (found p) c.found.result c.found.ensures (block_found E B r s ss c.run.new.env.opened p (c.in_ok-place.ensures.runs E (opened s) at))
