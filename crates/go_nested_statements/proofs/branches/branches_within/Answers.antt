use Rattle.go_flat_statements.proofs.FlatKinds.{kind_same}
use Rattle.go_judged.specs.Judging.{both}
use Rattle.go_local_scopes.proofs.Standing.{kept_at, kept_on, kept_opened, kept_same, same_at}
use Rattle.go_nested_statements.proofs.Branched.{if_failed, if_followed}
use Rattle.go_statement_rules.specs.Scopes.{opened}
use Rattle.go_syntax.specs.declared.statement.StmtKind.{StmtKind-F}
use Rattle.go_flat_statements.specs.go_walks.Below.{blocks_of, enclosing_of}
use Rattle.std.proofs.Common.{ap, ◌∙◌}
use Rattle.go_nested_statements.proofs.branches.branches_within.Goals as goal

pub returns-then-not-typed-clause-judged : goal.returns-then-not-typed-clause-judged
returns-then-not-typed-clause-judged g c = λ E s at.
    let f = c.args.walk.now.frame.now in
    let B = blocks_of f in
    let r = enclosing_of f in
    if_failed E B r s c.args.init.now c.args.condition.now c.args.body.now c.args.other.now c.decided.new.env.opened c.in_ok-head.head c.if-not-typed.true (c.in_ok-head.ensures.judged E s at)

pub optional-requires-clause-opened : goal.optional-requires-clause-opened
optional-requires-clause-opened g c = kept_opened c.args.env.now c.block.new.env (kept_same c.args.env.now c.decided.new.env c.block.new.env c.in_ok-taken.ensures.same c.in_ok-head.ensures.kept)

pub returns-in_err-taken-clause-kept : goal.returns-in_err-taken-clause-kept
returns-in_err-taken-clause-kept g c = kept_same c.args.env.now c.decided.new.env c.block.new.env c.in_err-taken.ensures.same c.in_ok-head.ensures.kept

pub returns-in_err-other-clause-kept : goal.returns-in_err-other-clause-kept
returns-in_err-other-clause-kept g c = kept_on c.args.env.now c.block.new.env c.optional.new.env (kept_same c.args.env.now c.decided.new.env c.block.new.env c.in_ok-taken.ensures.same c.in_ok-head.ensures.kept) c.in_err-other.ensures.kept

pub returns-clause-kept : goal.returns-clause-kept
returns-clause-kept g c = kept_on c.args.env.now c.block.new.env c.optional.new.env (kept_same c.args.env.now c.decided.new.env c.block.new.env c.in_ok-taken.ensures.same c.in_ok-head.ensures.kept) c.in_ok-other.ensures.kept

pub returns-clause-judged : goal.returns-clause-judged
returns-clause-judged g c = λ E s at.
    let f = c.args.walk.now.frame.now in
    let B = blocks_of f in
    let r = enclosing_of f in
    let x = c.decided.new.env in
    let t = x.opened in
    let h = c.in_ok-head.head in
    let a = c.in_ok-taken.taken in
    let b = c.in_ok-other.other in
    let there = kept_at E (opened s) c.args.env.now x c.in_ok-head.ensures.kept at in
    let k = StmtKind-F.If c.args.init.now c.args.condition.now c.args.body.now c.args.other.now in
    kind_same E B r s k s (both h (both a b)) c.both.result (c.both.ensures ∙ ap (both h) c.both-rest.ensures)
    (if_followed E B r s c.args.init.now c.args.condition.now c.args.body.now c.args.other.now t c.optional.new.env.opened h a b c.if-not-typed.false (c.in_ok-head.ensures.judged E s at)
    (c.in_ok-taken.ensures.judged E t there) (c.in_ok-other.ensures.judged E t (same_at E t x c.block.new.env c.in_ok-taken.ensures.same there)))
