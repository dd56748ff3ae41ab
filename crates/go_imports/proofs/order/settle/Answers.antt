use Rattle.std.proofs.Common.{◌≤◌, length, refl, ap, inl, arith}
use Rattle.go_imports.specs.Orders.{needs_of}
use Rattle.go_imports.proofs.Sorted.{stand_on, all_met, need_below}
use Rattle.go_imports.proofs.order.settle.Goals as goal

pub returns-then-at-needs : goal.returns-then-at-needs
returns-then-at-needs c =
    let before = stand_on c.args.graph.now c.args.standing.now.keys c.args.node c.args.from c.first_lacking-at.result c.needs_of-needs.result.now c.needs_of-needs.ensures c.requires.before c.first_lacking-at.ensures.stand in
    let long : length (needs_of c.args.graph.now c.args.node) ≤ c.first_lacking-at.result = omega (arith, c.if-at-needs.true, ap length c.needs_of-needs.ensures) in
    inl (all_met c.args.graph.now c.args.standing.now.keys c.args.node c.first_lacking-at.result before long, c.in_ok-add_ready.ensures, refl)

pub add_wait-requires : goal.add_wait-requires
add_wait-requires c = omega (arith, c.requires.rows, need_below c.args.graph.now c.args.node c.first_lacking-at.result c.needs_of-needs.result.now c.requires.graph c.needs_of-needs.ensures (omega (arith, c.first_lacking-at.ensures.within, c.if-at-needs.false)))
