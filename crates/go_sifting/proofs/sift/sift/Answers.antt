use Rattle.std.proofs.Common.{Bool, List, length, subst}
use Rattle.go_sifting.specs.inner.Ends.{AreEnds}
use Rattle.go_sifting.proofs.Sifting.{all_sifted}
use Rattle.go_sifting.proofs.sift.sift.Goals as goal

pub returns : goal.returns
returns c s u a graph stand =
    let g = c.args.graph.now in
    let k = c.in_ok-lost.ensures in
    let ends = subst (λ (bs : List Bool). AreEnds c.args.standing.now c.in_ok-ranked.ranked.items bs (length g.depends) k.0) c.deref-2.ensures.value
    (subst (λ (bs : List Bool). AreEnds c.args.standing.now bs c.deref-2.result.now (length g.depends) k.0) c.deref.ensures.value k.1) in
    all_sifted s u a g c.args.standing.now c.in_ok-ranked.ranked.items c.in_ok-back.back.items c.in_ok-lost.lost.items k.0 graph stand c.in_ok-ranked.ensures c.in_ok-back.ensures ends k.2
