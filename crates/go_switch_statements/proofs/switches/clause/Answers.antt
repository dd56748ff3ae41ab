use Rattle.go_judged.proofs.Joining.{judged_same}
use Rattle.go_judged.specs.Judging.{both}
use Rattle.go_local_scopes.proofs.Standing.{same_at}
use Rattle.go_switch_statements.proofs.Switched.{case_judged}
use Rattle.go_switch_statements.specs.Casing.{IsTypedCase}
use Rattle.go_untyped_places.specs.Parts.{InCase}
use Rattle.go_walks.specs.Below.{blocks_of, enclosing_of}
use Rattle.go_switch_statements.proofs.switches.clause.Goals as goal

pub returns-clause-judged : goal.returns-clause-judged
returns-clause-judged g c = λ E s at.
    let f = c.args.walk.now.frame.now in
    let B = blocks_of f in
    let r = enclosing_of f in
    let a = c.in_ok-values.values in
    let b = c.in_ok-body.body in
    let there = same_at E s c.args.env.now c.values.new.env c.in_ok-values.ensures.same at in
    judged_same E B (IsTypedCase E B r s c.args.term.now c.args.case.now) (InCase E B r s c.args.case.now) (both a b) c.both.result c.both.ensures
    (case_judged E B r s c.args.term.now c.args.case.now a b (c.in_ok-values.ensures.judged E s at) (c.in_ok-body.ensures.judged E s there))
