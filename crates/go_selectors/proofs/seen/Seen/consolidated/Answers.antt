use Rattle.std.proofs.Common.{◌≡◌, ◌<◌, subst, List, length, get_or}
use Rattle.go_model.specs.types.Selectors.{Spot}
use Rattle.go_selectors.proofs.Consolidation.{consolidated_next}
use Rattle.go_selectors.proofs.seen.Seen.consolidated.Goals as goal

pub loop-spot-preserved : goal.loop-spot-preserved
loop-spot-preserved c = λ seen k.
    let i = c.loop-spot.invariant seen k in
    let s = c.in_ok-keep.ensures seen i.0 in
    let e = c.deref-spot-items.ensures.value in
    (s.0, consolidated_next seen c.args.all.now.items c.loop-spot.kept.items c.keep.new.kept.items c.loop-spot.spot-index c.spot-item.result (subst (λ (w : List Spot). c.loop-spot.spot-index < length w) e c.loop-spot-test.true) (subst (λ (w : List Spot). c.spot-item.result ≡ get_or w c.loop-spot.spot-index c.spot-item.result) e c.spot-item.is) s.1 i.1)
