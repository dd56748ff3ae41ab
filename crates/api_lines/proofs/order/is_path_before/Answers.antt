use borrow.Author.Tests.{ltb-true}
use Rattle.std.proofs.Common.{get_or, length}
use Rattle.api_lines.proofs.PathOrder.{path_below, path_shorter}
use Rattle.api_lines.proofs.order.is_path_before.Goals as goal

pub returns-then-path-i : goal.returns-then-path-i
returns-then-path-i c = λ t.
    path_below c.args.path.now c.args.other.now c.loop-i.i c.loop-i.invariant c.loop-i-test.true c.if-other-i.false (ltb-true (get_or c.args.path.now c.loop-i.i 0) (get_or c.args.other.now c.loop-i.i 0) t)

pub returns-then-path-other : goal.returns-then-path-other
returns-then-path-other c = λ t.
    path_shorter c.args.path.now c.args.other.now c.loop-i.i c.loop-i.invariant c.loop-i-test.false c.loop-i.auto.i-end c.if-path-other.true (ltb-true 44 (get_or c.args.other.now (length c.args.path.now) 0) t)
