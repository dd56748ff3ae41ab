use Rattle.go_base.specs.Lists.{Each}
use Rattle.go_judged.proofs.Joining.{judged_all, judged_next, judged_none, judged_same}
use Rattle.go_judged.specs.Judging.{Among, Judges, tested}
use Rattle.go_local_scopes.proofs.Standing.{same_at}
use Rattle.go_walks.specs.Below.{blocks_of, enclosing_of}
use Rattle.go_walks.specs.Literals.{EntersLiteral, IsTypedLiteral}
use Rattle.std.proofs.Common.{◌+◌, ◌∙◌, [], refl, subst, sym, take, true}
use Rattle.go_walks.proofs.walk.Walk.each_literal.Goals as goal

pub loop-literal-init : goal.loop-literal-init
loop-literal-init g c =
    let w = c.args.self.now.frame.now in
    let B = blocks_of w in
    let r = enclosing_of w in
    record {
      same = refl;
      judged = λ E s at. judged_same E B (Each (IsTypedLiteral E B r s) []) (Among (EntersLiteral E B r s) []) (tested true) c.tested-judged.result c.tested-judged.ensures (judged_none E B (IsTypedLiteral E B r s) (EntersLiteral E B r s));
    }

pub loop-literal-preserved : goal.loop-literal-preserved
loop-literal-preserved g c =
    let w = c.args.self.now.frame.now in
    let B = blocks_of w in
    let r = enclosing_of w in
    let xs = c.args.literals.now in
    let i = c.loop-literal.literal-index in
    record {
      same = c.in_ok-one.ensures.same ∙ c.loop-literal.invariant.same;
      judged = λ E s at.
          let there = same_at E s c.args.env.now c.loop-literal.env c.loop-literal.invariant.same at in
          subst (Judges E B (Each (IsTypedLiteral E B r s) (take (i + 1) xs)) (Among (EntersLiteral E B r s) (take (i + 1) xs))) (sym c.both-judged.ensures)
          (judged_next E B (IsTypedLiteral E B r s) (EntersLiteral E B r s) xs i c.literal-item.result c.loop-literal.judged c.in_ok-one.one c.loop-literal-test.true c.literal-item.is (c.loop-literal.invariant.judged E s at) (c.in_ok-one.ensures.judged E s there));
    }

pub returns-clause-judged : goal.returns-clause-judged
returns-clause-judged g c = λ E s at.
    let w = c.args.self.now.frame.now in
    let B = blocks_of w in
    let r = enclosing_of w in
    judged_all E B (IsTypedLiteral E B r s) (EntersLiteral E B r s) c.args.literals.now c.loop-literal.literal-index c.loop-literal.judged c.loop-literal-test.false (c.loop-literal.invariant.judged E s at)
