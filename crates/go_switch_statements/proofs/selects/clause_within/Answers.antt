use Rattle.go_judged.proofs.Joining.{judged_same}
use Rattle.go_judged.specs.Judging.{both, found}
use Rattle.go_local_scopes.proofs.Standing.{kept_at, kept_on, kept_opened}
use Rattle.go_switch_statements.proofs.Selected.{select_case_failed, select_case_followed}
use Rattle.go_switch_statements.specs.Selecting.{InSelectCase, IsTypedSelectCase}
use Rattle.go_statement_rules.specs.Scopes.{opened}
use Rattle.go_walks.specs.Below.{blocks_of, enclosing_of}
use Rattle.std.proofs.Common.{ap, ◌∙◌}
use Rattle.go_switch_statements.proofs.selects.clause_within.Goals as goal

pub returns-then-not-typed-clause-judged : goal.returns-then-not-typed-clause-judged
returns-then-not-typed-clause-judged g c = λ E s at.
    let f = c.args.walk.now.frame.now in
    let B = blocks_of f in
    let r = enclosing_of f in
    select_case_failed E B r s c.args.case.now c.optional.new.env.opened c.in_ok-begun.begun c.if-not-typed.true (c.in_ok-begun.ensures.judged E (opened s) at)

pub run-requires-clause-opened : goal.run-requires-clause-opened
run-requires-clause-opened g c = kept_opened c.args.env.now c.optional.new.env c.in_ok-begun.ensures.kept

pub returns-in_err-place-clause-kept : goal.returns-in_err-place-clause-kept
returns-in_err-place-clause-kept g c = kept_on c.args.env.now c.optional.new.env c.run.new.env c.in_ok-begun.ensures.kept c.in_err-place.ensures.kept

pub returns-clause-kept : goal.returns-clause-kept
returns-clause-kept g c = kept_on c.args.env.now c.optional.new.env c.run.new.env c.in_ok-begun.ensures.kept c.in_ok-place.ensures.kept

pub returns-clause-judged : goal.returns-clause-judged
returns-clause-judged g c = λ E s at.
    let f = c.args.walk.now.frame.now in
    let B = blocks_of f in
    let r = enclosing_of f in
    let x = c.optional.new.env in
    let t = x.opened in
    let a = c.in_ok-begun.begun in
    let p = c.in_ok-place.place in
    judged_same E B (IsTypedSelectCase E B r s c.args.case.now) (InSelectCase E B r s c.args.case.now) (both a (found p)) c.both.result (c.both.ensures ∙ ap (both a) c.found.ensures)
    (select_case_followed E B r s c.args.case.now t c.run.new.env.opened a p c.if-not-typed.false (c.in_ok-begun.ensures.judged E (opened s) at)
    (c.in_ok-place.ensures.runs E t (kept_at E (opened s) c.args.env.now x c.in_ok-begun.ensures.kept at)))
