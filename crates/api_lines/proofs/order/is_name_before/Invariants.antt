use Rattle.std.proofs.Common.{◌≡◌, take}
use Rattle.api_lines.proofs.order.is_name_before.Given as goal

abbrev pub invariant-loop-i : goal.invariant-loop-i
invariant-loop-i l = take l.i l.name ≡ take l.i l.other
