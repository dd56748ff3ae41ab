use Rattle.std.proofs.Common.{take}
use Rattle.api_lines.specs.Lines.{AreInOrder}
use Rattle.api_lines.proofs.lines.are_in_order.Given as goal

abbrev pub invariant-loop-i : goal.invariant-loop-i
invariant-loop-i l = AreInOrder (take l.i l.lines)
