use Rattle.go_blocks.proofs.Placed.{StatementsOn, statements_begin, statements_done, statements_next, statements_not}
use Rattle.go_local_scopes.proofs.Standing.{kept_at, kept_none, kept_on, kept_opened}
use Rattle.go_statement_rules.specs.Functions.{run}
use Rattle.go_statement_rules.specs.Places.{IsUntypedPlace}
use Rattle.go_switch_statements.specs.go_walks.Below.{blocks_of, enclosing_of}
use Rattle.std.proofs.Common.{subst, sym}
use Rattle.go_blocks.proofs.statements.statements.Goals as goal

pub loop-one-init : goal.loop-one-init
loop-one-init g c =
    let f = c.args.walk.now.frame.now in
    let B = blocks_of f in
    let r = enclosing_of f in
    record {
      kept = kept_none c.args.env.now c.requires.opened;
      some = c.requires.opened;
      on = λ E s at. subst (λ t. StatementsOn E B r s c.args.list.now t c.args.list.now) (sym at.scopes) (statements_begin E B r s c.args.list.now);
    }

pub loop-one-preserved : goal.loop-one-preserved
loop-one-preserved g c =
    let f = c.args.walk.now.frame.now in
    let x = c.loop-one.env in
    let y = c.statement.new.env in
    record {
      kept = kept_on c.args.env.now x y c.loop-one.invariant.kept c.in_ok-judged.ensures.kept;
      some = kept_opened x y c.in_ok-judged.ensures.kept;
      on = λ E s at. statements_next E (blocks_of f) (enclosing_of f) s c.args.list.now x.opened c.loop-one.one-index c.one-item.result c.loop-one-test.true c.one-item.is (c.loop-one.invariant.on E s at) y.opened c.in_ok-judged.judged c.if-not-typed.false
          (c.in_ok-judged.ensures.judged E x.opened (kept_at E s c.args.env.now x c.loop-one.invariant.kept at));
    }

pub returns-in_err-judged-clause-kept : goal.returns-in_err-judged-clause-kept
returns-in_err-judged-clause-kept g c = kept_on c.args.env.now c.loop-one.env c.statement.new.env c.loop-one.invariant.kept c.in_err-judged.ensures.kept

pub returns-then-not-typed-clause-kept : goal.returns-then-not-typed-clause-kept
returns-then-not-typed-clause-kept g c = kept_on c.args.env.now c.loop-one.env c.statement.new.env c.loop-one.invariant.kept c.in_ok-judged.ensures.kept

pub returns-then-not-typed-clause-runs : goal.returns-then-not-typed-clause-runs
returns-then-not-typed-clause-runs g c = λ E s at.
    let f = c.args.walk.now.frame.now in
    let B = blocks_of f in
    let r = enclosing_of f in
    let x = c.loop-one.env in
    let y = c.statement.new.env in
    subst (IsUntypedPlace E B (run r s c.args.list.now)) (sym c.place_or.ensures)
    (statements_not E B r s c.args.list.now x.opened c.loop-one.one-index c.one-item.result c.loop-one-test.true c.one-item.is (c.loop-one.invariant.on E s at) y.opened c.in_ok-judged.judged c.if-not-typed.true
    (c.in_ok-judged.ensures.judged E x.opened (kept_at E s c.args.env.now x c.loop-one.invariant.kept at)))

pub returns-clause-runs : goal.returns-clause-runs
returns-clause-runs g c = λ E s at.
    let f = c.args.walk.now.frame.now in
    let B = blocks_of f in
    let r = enclosing_of f in
    statements_done E B r s c.args.list.now c.loop-one.env.opened c.loop-one.one-index c.loop-one-test.false (c.loop-one.invariant.on E s at)
