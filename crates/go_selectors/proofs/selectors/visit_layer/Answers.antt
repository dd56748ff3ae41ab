use Rattle.std.proofs.Common.{◌≡◌, ◌<◌, List, length, get_or, subst}
use Rattle.go_model.specs.types.Selectors.{Spot, endings, steps}
use Rattle.go_selectors.specs.Endings.{endings_of}
use Rattle.go_selectors.proofs.Lists.{gather_next}
use Rattle.go_selectors.proofs.selectors.visit_layer.Goals as goal

pub loop-spot-preserved : goal.loop-spot-preserved
loop-spot-preserved g c =
    let e = c.deref-spot-items.ensures.value in
    let h = subst (λ (w : List Spot). c.loop-spot.spot-index < length w) e c.loop-spot-test.true in
    let i = subst (λ (w : List Spot). c.spot-item.result ≡ get_or w c.loop-spot.spot-index c.spot-item.result) e c.spot-item.is in (
      gather_next (endings (g.T.TypeTable.lookup c.args.types.now.table.now) c.args.sel.now) c.args.layer.now.items c.loop-spot.spot-index c.spot-item.result (endings_of c.loop-spot.found.items) (endings_of c.visit.new.found.items) _ h i c.loop-spot.invariant.0 c.in_ok-visit.ensures.found,
      gather_next (steps (g.T.TypeTable.lookup c.args.types.now.table.now)) c.args.layer.now.items c.loop-spot.spot-index c.spot-item.result c.loop-spot.all.items c.visit.new.all.items _ h i c.loop-spot.invariant.1 c.in_ok-visit.ensures.steps,
    )
