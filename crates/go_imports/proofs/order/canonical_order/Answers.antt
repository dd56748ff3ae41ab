use Rattle.std.proofs.Common.{ℕ, Option, subst}
use Rattle.go_imports.specs.inner.Levels.{LeastOrNone}
use Rattle.go_imports.proofs.StuckOrders.{stuck_on_cycle}
use Rattle.go_imports.proofs.order.canonical_order.Goals as goal

pub unreachable-requires : goal.unreachable-requires
unreachable-requires c =
    let p = c.all_stand.ensures.no c.if-all_stand.false in
    stuck_on_cycle c.args.graph.now c.in_ok-standing.standing.keys c.requires c.in_ok-standing.ensures.stuck p.0 p.1 p.2
    (subst (λ (o : Option ℕ). LeastOrNone c.args.graph.now o) c.in-None.is c.in_ok-node.ensures)
