use Rattle.std.proofs.Common.{◌≡◌, map, subst}
use Rattle.std.specs.declared.cmp.Ordering.TheVariants.{Less}
use Rattle.go_base.specs.Lists.{Each}
use Rattle.go_model.specs.declared.types.names.Sel.{Sel}
use Rattle.go_model.specs.types.Members.{AreOrdered}
use Rattle.go_model.specs.types.MethodSets.{sel_order}
use Rattle.go_model.specs.types.Terms.{IsBlank}
use Rattle.worlds.proofs.Orders.{next, none_ordered, ordered, whole}
use Rattle.worlds.proofs.order.are_ordered.Goals as goal

pub loop-at-preserved : goal.loop-at-preserved
loop-at-preserved g c =
    let named : IsBlank (g.M.Selected.sel c.index-methods-at.result) → ⊥ =
    subst (λ (s : Sel). IsBlank s → ⊥) c.sel-found.ensures (c.is_named.ensures c.if-not-is_named.false) in
    let least : Each (λ y. sel_order (g.M.Selected.sel c.index-methods-at.result) (g.M.Selected.sel y) ≡ Less) c.behind.result.now =
    subst (λ (s : Sel). Each (λ y. sel_order s (g.M.Selected.sel y) ≡ Less) c.behind.result.now) c.sel-found.ensures (c.is_least.ensures c.if-not-is_least.false) in
    next (λ ys. AreOrdered (map g.M.Selected.sel ys)) c.args.methods.now c.loop-at.at c.index-methods-at.result c.behind.result.now c.loop-at-test.true c.index-methods-at.is c.behind.ensures (ordered g.M.Selected.sel c.index-methods-at.result c.behind.result.now named least) c.loop-at.invariant

pub returns : goal.returns
returns g c = λ _. whole (λ ys. AreOrdered (map g.M.Selected.sel ys)) c.args.methods.now c.loop-at.at c.loop-at-test.false none_ordered c.loop-at.invariant
