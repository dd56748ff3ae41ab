use Rattle.go_flat_statements.proofs.FlatKinds.{kind_same}
use Rattle.go_judged.specs.Judging.{JudgesTo, both, with_test}
use Rattle.go_judged.specs.declared.judged.Judged.{Judged}
use Rattle.go_local_scopes.proofs.Standing.{kept_at, kept_on, kept_opened, kept_same, same_at}
use Rattle.go_nested_statements.proofs.Looped.{for_failed, for_followed}
use Rattle.go_nested_statements.specs.Heads.{InHead, turned}
use Rattle.go_rules.proofs.NamedEntries.{item_copied}
use Rattle.go_statement_rules.specs.Contexts.{Decides}
use Rattle.go_statement_rules.specs.Scopes.{opened}
use Rattle.go_statement_rules.specs.Statements.{tag_nodes}
use Rattle.go_syntax.specs.declared.expression.Expr.{Expr}
use Rattle.go_syntax.specs.declared.statement.StmtKind.{StmtKind-F}
use Rattle.go_flat_statements.specs.go_walks.Below.{blocks_of, enclosing_of}
use Rattle.std.proofs.Common.{Option, ap, subst, ◌∙◌}
use Rattle.go_nested_statements.proofs.loops.counted_within.Goals as goal

pub returns-then-not-typed-clause-judged : goal.returns-then-not-typed-clause-judged
returns-then-not-typed-clause-judged g c = λ E s at.
    let f = c.args.walk.now.frame.now in
    let B = blocks_of f in
    let r = enclosing_of f in
    let i = c.args.init.now in
    let h = c.in_ok-head.head in
    let x = c.decided.new.env in
    for_failed E B r s i c.args.post.now c.args.condition.now c.args.body.now x.opened h c.if-not-typed.true
    (subst (λ (e : Option Expr). JudgesTo E B (λ z. Decides E B r s i e z) x.opened (InHead E B r s i (tag_nodes e)) h) (item_copied c.as_ref.result ∙ c.as_ref.ensures.value) (c.in_ok-head.ensures.judged E s at))

pub optional-requires-clause-opened : goal.optional-requires-clause-opened
optional-requires-clause-opened g c = kept_opened c.args.env.now c.block.new.env (kept_same c.args.env.now c.decided.new.env c.block.new.env c.in_ok-body.ensures.same c.in_ok-head.ensures.kept)

pub returns-in_err-body-clause-kept : goal.returns-in_err-body-clause-kept
returns-in_err-body-clause-kept g c = kept_same c.args.env.now c.decided.new.env c.block.new.env c.in_err-body.ensures.same c.in_ok-head.ensures.kept

pub returns-in_err-after-clause-kept : goal.returns-in_err-after-clause-kept
returns-in_err-after-clause-kept g c = kept_on c.args.env.now c.block.new.env c.optional.new.env (kept_same c.args.env.now c.decided.new.env c.block.new.env c.in_ok-body.ensures.same c.in_ok-head.ensures.kept) c.in_err-after.ensures.kept

pub returns-clause-kept : goal.returns-clause-kept
returns-clause-kept g c = kept_on c.args.env.now c.block.new.env c.optional.new.env (kept_same c.args.env.now c.decided.new.env c.block.new.env c.in_ok-body.ensures.same c.in_ok-head.ensures.kept) c.in_ok-after.ensures.kept

pub returns-clause-judged : goal.returns-clause-judged
returns-clause-judged g c = λ E s at.
    let f = c.args.walk.now.frame.now in
    let B = blocks_of f in
    let r = enclosing_of f in
    let i = c.args.init.now in
    let h = c.in_ok-head.head in
    let x = c.decided.new.env in
    let t = x.opened in
    let body = c.in_ok-body.body in
    let after = c.in_ok-after.after in
    let there = kept_at E (opened s) c.args.env.now x c.in_ok-head.ensures.kept at in
    let posted = c.is_post-posted.result in
    kind_same E B r s (StmtKind-F.For i c.args.condition.now c.args.post.now c.args.body.now) s (both h (turned (with_test after posted) body)) c.both.result
    (c.both.ensures ∙ ap (both h) (c.turn-rest.ensures ∙ ap (λ (z : Judged). turned z body) c.with_test-tested.ensures))
    (for_followed E B r s i c.args.post.now c.args.condition.now c.args.body.now t c.optional.new.env.opened h after body posted c.if-not-typed.false
    (subst (λ (e : Option Expr). JudgesTo E B (λ z. Decides E B r s i e z) x.opened (InHead E B r s i (tag_nodes e)) h) (item_copied c.as_ref.result ∙ c.as_ref.ensures.value) (c.in_ok-head.ensures.judged E s at))
    (c.in_ok-body.ensures.judged E t there) (c.in_ok-after.ensures.judged E t (same_at E t x c.block.new.env c.in_ok-body.ensures.same there)) c.is_post-posted.ensures)
