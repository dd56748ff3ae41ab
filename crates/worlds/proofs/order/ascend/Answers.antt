use Rattle.std.proofs.Common.{ℕ, List, map, subst}
use Rattle.go_base.specs.Lists.{Ascending, Before, Each}
use Rattle.worlds.proofs.Orders.{ascends, next, whole}
use Rattle.worlds.proofs.order.ascend.Goals as goal

pub loop-at-preserved : goal.loop-at-preserved
loop-at-preserved g c =
    let first : Each (λ y. Before (g.K.Keyed.key c.index-items-at.result) (g.K.Keyed.key y)) c.behind.result.now =
    subst (λ (n : List ℕ). Each (λ y. Before n (g.K.Keyed.key y)) c.behind.result.now) c.key.ensures (c.comes_first.ensures c.if-not-comes_first.false) in
    next (λ ys. Ascending (map g.K.Keyed.key ys)) c.args.items.now c.loop-at.at c.index-items-at.result c.behind.result.now c.loop-at-test.true c.index-items-at.is c.behind.ensures (ascends g.K.Keyed.key c.index-items-at.result c.behind.result.now first) c.loop-at.invariant

pub returns : goal.returns
returns g c = λ _. whole (λ ys. Ascending (map g.K.Keyed.key ys)) c.args.items.now c.loop-at.at c.loop-at-test.false tt c.loop-at.invariant
