use Rattle.std.proofs.Common.{◌-◌, arith}
use Rattle.api_lines.proofs.LineOrder.{next_in_order, one_in_order}
use Rattle.api_lines.proofs.lines.are_in_order.Goals as goal

pub loop-i-init : goal.loop-i-init
loop-i-init c = one_in_order c.args.lines.now

pub loop-i-preserved : goal.loop-i-preserved
loop-i-preserved c = next_in_order c.args.lines.now c.loop-i.i (c.loop-i.i - 1) c.index-lines-i.result c.index-lines-i-in-loop-i.result (omega (arith, c.loop-i.auto.i)) c.loop-i-test.true c.index-lines-i.is c.index-lines-i-in-loop-i.is c.loop-i.invariant (c.is_before.ensures c.if-not-is_before.false)
