use Rattle.go_base.specs.Keys.{item_of}
use Rattle.go_judged.proofs.Joining.{judged_to_same, judged_to_there}
use Rattle.go_judged.specs.Judging.{both}
use Rattle.go_local_scopes.proofs.Standing.{kept_at, kept_same}
use Rattle.go_nested_statements.proofs.Headed.{decided_both, decided_failed}
use Rattle.go_nested_statements.specs.Heads.{InHead}
use Rattle.go_rules.specs.Scopes.{Scopes as Known}
use Rattle.go_statement_rules.specs.Contexts.{Decides}
use Rattle.go_statement_rules.specs.Scopes.{opened}
use Rattle.go_statement_rules.specs.Statements.{tag_nodes}
use Rattle.go_flat_statements.specs.go_walks.Below.{blocks_of, enclosing_of}
use Rattle.std.proofs.Common.{ap}
use Rattle.go_nested_statements.proofs.headers.decided.Goals as goal

pub returns-then-not-typed-clause-judged : goal.returns-then-not-typed-clause-judged
returns-then-not-typed-clause-judged g c = λ E s at.
    let f = c.args.walk.now.frame.now in
    let B = blocks_of f in
    let r = enclosing_of f in
    let x = c.optional.new.env in
    decided_failed E B r s c.args.init.now (item_of c.args.expr) x.opened c.in_ok-begun.begun c.if-not-typed.true (c.in_ok-begun.ensures.judged E (opened s) at) x.opened

pub returns-in_err-tested-clause-kept : goal.returns-in_err-tested-clause-kept
returns-in_err-tested-clause-kept g c = kept_same c.args.env.now c.optional.new.env c.tested_where.new.env c.in_err-tested.ensures.same c.in_ok-begun.ensures.kept

pub returns-clause-kept : goal.returns-clause-kept
returns-clause-kept g c = kept_same c.args.env.now c.optional.new.env c.tested_where.new.env c.in_ok-tested.ensures.same c.in_ok-begun.ensures.kept

pub returns-clause-judged : goal.returns-clause-judged
returns-clause-judged g c = λ E s at.
    let f = c.args.walk.now.frame.now in
    let B = blocks_of f in
    let r = enclosing_of f in
    let e = item_of c.args.expr in
    let x = c.optional.new.env in
    let t = x.opened in
    let a = c.in_ok-begun.begun in
    let b = c.in_ok-tested.tested in
    let there = kept_at E (opened s) c.args.env.now x c.in_ok-begun.ensures.kept at in
    judged_to_same E B (λ z. Decides E B r s c.args.init.now e z) c.tested_where.new.env.opened (InHead E B r s c.args.init.now (tag_nodes e)) (both a b) c.both.result c.both.ensures
    (judged_to_there E B (λ z. Decides E B r s c.args.init.now e z) t c.tested_where.new.env.opened (InHead E B r s c.args.init.now (tag_nodes e)) (both a b) (ap (λ (z : Known). z.opened) c.in_ok-tested.ensures.same)
    (decided_both E B r s c.args.init.now e t a b c.if-not-typed.false (c.in_ok-begun.ensures.judged E (opened s) at) (c.in_ok-tested.ensures.judged E t there)))
