use Rattle.go_base.specs.Lists.{Each}
use Rattle.go_judged.proofs.Joining.{judged_all, judged_next, judged_none, judged_same}
use Rattle.go_judged.specs.Judging.{Among, Judges, tested}
use Rattle.go_local_scopes.proofs.Standing.{same_at}
use Rattle.go_switch_statements.specs.Selecting.{InSelectCase, IsTypedSelectCase}
use Rattle.go_walks.specs.Below.{blocks_of, enclosing_of}
use Rattle.std.proofs.Common.{◌+◌, ◌∙◌, [], refl, subst, sym, take, true}
use Rattle.go_switch_statements.proofs.selects.clauses.Goals as goal

pub loop-case-init : goal.loop-case-init
loop-case-init g c =
    let f = c.args.walk.now.frame.now in
    let B = blocks_of f in
    let r = enclosing_of f in
    record {
      same = refl;
      judged = λ E s at. judged_same E B (Each (IsTypedSelectCase E B r s) []) (Among (InSelectCase E B r s) []) (tested true) c.tested-judged.result c.tested-judged.ensures (judged_none E B (IsTypedSelectCase E B r s) (InSelectCase E B r s));
    }

pub loop-case-preserved : goal.loop-case-preserved
loop-case-preserved g c =
    let f = c.args.walk.now.frame.now in
    let B = blocks_of f in
    let r = enclosing_of f in
    let xs = c.args.cases.now in
    let i = c.loop-case.case-index in
    let x = c.case-item.result in
    record {
      same = c.in_ok-one.ensures.same ∙ c.loop-case.invariant.same;
      judged = λ E s at.
          let there = same_at E s c.args.env.now c.loop-case.env c.loop-case.invariant.same at in
          subst (Judges E B (Each (IsTypedSelectCase E B r s) (take (i + 1) xs)) (Among (InSelectCase E B r s) (take (i + 1) xs))) (sym c.both-judged.ensures)
          (judged_next E B (IsTypedSelectCase E B r s) (InSelectCase E B r s) xs i x c.loop-case.judged c.in_ok-one.one c.loop-case-test.true c.case-item.is (c.loop-case.invariant.judged E s at) (c.in_ok-one.ensures.judged E s there));
    }

pub returns-clause-judged : goal.returns-clause-judged
returns-clause-judged g c = λ E s at.
    let f = c.args.walk.now.frame.now in
    let B = blocks_of f in
    let r = enclosing_of f in
    let xs = c.args.cases.now in
    judged_all E B (IsTypedSelectCase E B r s) (InSelectCase E B r s) xs c.loop-case.case-index c.loop-case.judged c.loop-case-test.false (c.loop-case.invariant.judged E s at)
