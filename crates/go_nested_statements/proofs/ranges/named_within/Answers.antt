use Rattle.go_judged.proofs.Joining.{judged_same}
use Rattle.go_judged.specs.Judging.{Judges, tested}
use Rattle.go_judged.specs.declared.judged.Judged.{Judged}
use Rattle.go_local_scopes.proofs.Standing.{kept_at, kept_same, reaches_at}
use Rattle.go_local_scopes.specs.States.{IsAt}
use Rattle.go_nested_statements.proofs.Ranged.{named_judged, named_none}
use Rattle.go_nested_statements.specs.Ranging.{IsTypedNamed, NamedRun, Names}
use Rattle.go_rules.specs.Environments.{Env}
use Rattle.go_statement_rules.specs.Functions.{run}
use Rattle.go_statement_rules.specs.Scopes.{Scopes, opened}
use Rattle.go_statement_rules.specs.Statements.{IsTypedBlock}
use Rattle.go_flat_statements.specs.go_walks.Below.{blocks_of, enclosing_of}
use Rattle.std.proofs.Common.{◌≡◌, false}
use Rattle.std.proofs.lemmas.Result.{IfOk-weaker}
use Rattle.go_nested_statements.proofs.ranges.named_within.Goals as goal

pub returns-then-not-declared-clause-judged : goal.returns-then-not-declared-clause-judged
returns-then-not-declared-clause-judged g c = λ E s at.
    let f = c.args.walk.now.frame.now in
    let B = blocks_of f in
    let r = enclosing_of f in
    let o = opened s in
    let ns = c.args.names.now in
    let ts = c.args.terms.now in
    let ss = c.args.body.now in
    let x = c.declare.new.env in
    judged_same E B (IsTypedNamed E B r o ns ts ss) (NamedRun r o ns ts ss) (tested false) c.tested.result c.tested.ensures
    (named_none E B r o ns ts ss c.in_ok-declared.declared c.if-not-declared.true x.opened (reaches_at E o c.args.env.now at c.in_ok-declared.declared (λ z. Names z ns ts) x.opened c.in_ok-declared.ensures.declared))

pub returns-clause-kept : goal.returns-clause-kept
returns-clause-kept g c = kept_same c.args.env.now c.declare.new.env c.block.new.env c.block.ensures.same c.in_ok-declared.ensures.kept

pub returns-clause-judged : goal.returns-clause-judged
returns-clause-judged g c =
    let f = c.args.walk.now.frame.now in
    let B = blocks_of f in
    let r = enclosing_of f in
    let ns = c.args.names.now in
    let ts = c.args.terms.now in
    let ss = c.args.body.now in
    let e = c.args.env.now in
    let x = c.declare.new.env in
    let b = c.in_ok-declared.declared in
    IfOk-weaker c.block.result
    (λ (j : Judged). (E : Env) (s : Scopes) → IsAt E s x → Judges E B (IsTypedBlock E B r s ss) (λ v. v ≡ run r (opened s) ss) j)
    (λ (j : Judged). (E : Env) (s : Scopes) → IsAt E (opened s) e → Judges E B (IsTypedNamed E B r (opened s) ns ts ss) (NamedRun r (opened s) ns ts ss) j)
    (λ j k E s at. named_judged E B r (opened s) ns ts ss b c.if-not-declared.false x.opened (reaches_at E (opened s) e at b (λ z. Names z ns ts) x.opened c.in_ok-declared.ensures.declared) j (k E x.opened (kept_at E (opened s) e x c.in_ok-declared.ensures.kept at)))
    c.block.ensures.judged
