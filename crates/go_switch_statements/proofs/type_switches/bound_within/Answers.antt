use Rattle.go_judged.proofs.Joining.{judged_same}
use Rattle.go_judged.specs.Judging.{found, tested}
use Rattle.go_local_scopes.proofs.Standing.{kept_at, kept_on, kept_opened}
use Rattle.go_statement_rules.specs.Scopes.{opened}
use Rattle.go_switch_statements.proofs.Guarded.{bound_found, bound_none}
use Rattle.go_switch_statements.specs.Binding.{BoundRun, IsTypedBound}
use Rattle.go_walks.specs.Below.{blocks_of, enclosing_of}
use Rattle.std.proofs.Common.{false}
use Rattle.go_switch_statements.proofs.type_switches.bound_within.Goals as goal

pub returns-then-not-declared-clause-judged : goal.returns-then-not-declared-clause-judged
returns-then-not-declared-clause-judged g c = λ E s at.
    let f = c.args.walk.now.frame.now in
    let B = blocks_of f in
    let r = enclosing_of f in
    let n = c.args.name.now in
    let t = c.args.term.now in
    let ss = c.args.body.now in
    judged_same E B (IsTypedBound E B r s n t ss) (BoundRun r s n t ss) (tested false) c.tested.result c.tested.ensures
    (bound_none E B r s n t ss c.in_ok-declared.declared c.if-not-declared.true c.bind.new.env.opened (c.in_ok-declared.ensures.bound s at.scopes))

pub run-requires-clause-opened : goal.run-requires-clause-opened
run-requires-clause-opened g c = kept_opened c.args.env.now c.bind.new.env c.in_ok-declared.ensures.kept

pub returns-in_err-place-clause-kept : goal.returns-in_err-place-clause-kept
returns-in_err-place-clause-kept g c = kept_on c.args.env.now c.bind.new.env c.run.new.env c.in_ok-declared.ensures.kept c.in_err-place.ensures.kept

pub returns-clause-kept : goal.returns-clause-kept
returns-clause-kept g c = kept_on c.args.env.now c.bind.new.env c.run.new.env c.in_ok-declared.ensures.kept c.in_ok-place.ensures.kept

pub returns-clause-judged : goal.returns-clause-judged
returns-clause-judged g c = λ E s at.
    let f = c.args.walk.now.frame.now in
    let B = blocks_of f in
    let r = enclosing_of f in
    let n = c.args.name.now in
    let t = c.args.term.now in
    let ss = c.args.body.now in
    let x = c.bind.new.env in
    let p = c.in_ok-place.place in
    judged_same E B (IsTypedBound E B r s n t ss) (BoundRun r s n t ss) (found p) c.found.result c.found.ensures
    (bound_found E B r s n t ss c.in_ok-declared.declared c.if-not-declared.false x.opened (c.in_ok-declared.ensures.bound s at.scopes) c.run.new.env.opened p
    (c.in_ok-place.ensures.runs E x.opened (kept_at E (opened s) c.args.env.now x c.in_ok-declared.ensures.kept at)))
