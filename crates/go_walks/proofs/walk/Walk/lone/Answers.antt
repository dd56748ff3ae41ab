use Rattle.go_judged.proofs.Joining.{judged_to_same}
use Rattle.go_judged.specs.Judging.{found}
use Rattle.go_statement_rules.specs.Functions.{run}
use Rattle.go_statement_rules.specs.Statements.{Leaves, kind_of}
use Rattle.go_walks.proofs.InnerRuns.{lone_found}
use Rattle.go_walks.specs.Below.{blocks_of, enclosing_of}
use Rattle.std.proofs.Common.{◌≡◌, ◌∷◌, []}
use Rattle.go_walks.proofs.walk.Walk.lone.Goals as goal

pub returns-clause-judged : goal.returns-clause-judged
returns-clause-judged g c = λ E s at.
    let w = c.args.self.now.frame.now in
    let B = blocks_of w in
    let r = enclosing_of w in
    let x = c.args.statement.now in
    let t = c.run.new.env.opened in
    let p = c.in_ok-place.place in
    judged_to_same E B (Leaves E B r s (kind_of x)) t (λ v. v ≡ run r s (x ∷ [])) (found p) c.found.result c.found.ensures (lone_found E B r s x t p (c.in_ok-place.ensures.runs E s at))
