use borrow.Author.Tests.{ltb-true}
use Rattle.std.proofs.Common.{get_or, length}
use Rattle.api_lines.proofs.PathOrder.{name_below, name_shorter}
use Rattle.api_lines.proofs.order.is_name_before.Goals as goal

pub returns-then-name-i : goal.returns-then-name-i
returns-then-name-i c = λ t.
    name_below c.args.name.now c.args.other.now c.loop-i.i c.loop-i.invariant c.loop-i-test.true c.if-other-i.false (ltb-true (get_or c.args.name.now c.loop-i.i 0) (get_or c.args.other.now c.loop-i.i 0) t)

pub returns-then-name-other : goal.returns-then-name-other
returns-then-name-other c = λ t.
    name_shorter c.args.name.now c.args.other.now c.loop-i.i c.loop-i.invariant c.loop-i-test.false c.loop-i.auto.i-end c.if-name-other.true (ltb-true 41 (get_or c.args.other.now (length c.args.name.now) 0) t)
