use Rattle.go_nested_statements.proofs.go_flat_statements_proofs.FlatKinds.{kind_same}
use Rattle.go_judged.specs.Judging.{both}
use Rattle.go_local_scopes.proofs.Standing.{kept_at, kept_same}
use Rattle.go_statement_rules.specs.Scopes.{opened}
use Rattle.go_switch_statements.proofs.Switched.{switch_failed, switch_followed}
use Rattle.go_syntax.specs.declared.statement.StmtKind.{StmtKind-F}
use Rattle.go_walks.specs.Below.{blocks_of, enclosing_of}
use Rattle.go_switch_statements.proofs.switches.switch_within.Goals as goal

pub returns-then-not-typed-clause-judged : goal.returns-then-not-typed-clause-judged
returns-then-not-typed-clause-judged g c = λ E s at.
    let f = c.args.walk.now.frame.now in
    let B = blocks_of f in
    let r = enclosing_of f in
    switch_failed E B r s c.args.init.now c.args.expr.now c.args.cases.now c.optional.new.env.opened c.in_ok-begun.begun c.if-not-typed.true (c.in_ok-begun.ensures.judged E (opened s) at)

pub returns-in_err-tagged-clause-kept : goal.returns-in_err-tagged-clause-kept
returns-in_err-tagged-clause-kept g c = kept_same c.args.env.now c.optional.new.env c.tagged.new.env c.in_err-tagged.ensures.same c.in_ok-begun.ensures.kept

pub returns-clause-kept : goal.returns-clause-kept
returns-clause-kept g c = kept_same c.args.env.now c.optional.new.env c.tagged.new.env c.in_ok-tagged.ensures.same c.in_ok-begun.ensures.kept

pub returns-clause-judged : goal.returns-clause-judged
returns-clause-judged g c = λ E s at.
    let f = c.args.walk.now.frame.now in
    let B = blocks_of f in
    let r = enclosing_of f in
    let x = c.optional.new.env in
    let h = c.in_ok-begun.begun in
    let b = c.in_ok-tagged.tagged in
    let there = kept_at E (opened s) c.args.env.now x c.in_ok-begun.ensures.kept at in
    kind_same E B r s (StmtKind-F.Switch c.args.init.now c.args.expr.now c.args.cases.now) s (both h b) c.both.result c.both.ensures
    (switch_followed E B r s c.args.init.now c.args.expr.now c.args.cases.now x.opened h b c.if-not-typed.false (c.in_ok-begun.ensures.judged E (opened s) at) (c.in_ok-tagged.ensures.judged E x.opened there))
