use Rattle.std.proofs.Common.{◌≢◌, map, rules}
use Rattle.go_base.specs.Lists.{Each}
use Rattle.go_model.specs.types.Members.{AreDistinct, field_sel}
use Rattle.worlds.proofs.Orders.{distinct, next, whole}
use Rattle.worlds.proofs.order.are_distinct.Goals as goal

pub loop-at-preserved : goal.loop-at-preserved
loop-at-preserved c =
    let none : Each (λ f. (field_sel f).name ≢ (field_sel c.index-fields-at.result).name) c.behind.result.now = search rules in
    next (λ ys. AreDistinct (map field_sel ys)) c.args.fields.now c.loop-at.at c.index-fields-at.result c.behind.result.now c.loop-at-test.true c.index-fields-at.is c.behind.ensures (distinct c.index-fields-at.result c.behind.result.now none) c.loop-at.invariant

pub returns : goal.returns
returns c = λ _. whole (λ ys. AreDistinct (map field_sel ys)) c.args.fields.now c.loop-at.at c.loop-at-test.false tt c.loop-at.invariant
