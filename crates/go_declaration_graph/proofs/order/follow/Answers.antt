use Rattle.std.proofs.Common.{sym}
use Rattle.go_declaration_graph.proofs.OrderRows.{moved_on}
use Rattle.go_declaration_graph.proofs.PendingNumbers.{reached_end}
use Rattle.go_declaration_graph.proofs.order.follow.Goals as goal

pub loop-at-preserved : goal.loop-at-preserved
loop-at-preserved c = (
  moved_on c.args.env.now c.loop-at.env c.visit.new.env c.loop-at.invariant.0 c.visit.ensures.moved,
  λ h. c.in_ok-visit-in-Some.ensures.reach c.args.env.now c.loop-at.invariant.0 (c.loop-at.invariant.1 h),
  λ starts p. c.in_ok-visit-in-Some.ensures.pending starts c.loop-at.at (sym c.in-Some.ensures) (c.loop-at.invariant.2 starts p),
)

pub returns-in-None-clause-reached : goal.returns-in-None-clause-reached
returns-in-None-clause-reached c starts p =
    reached_end starts _ c.loop-at.pending.items c.loop-at.at c.loop-at.reach.flags.items c.loop-at.reach.rows.items c.in-None.ensures (c.loop-at.invariant.2 starts p)
