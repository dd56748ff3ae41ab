use Rattle.std.proofs.Common.{◌≡◌, ◌++◌}
use Rattle.api_worlds.proofs.left_out.add_lines.Given as goal

abbrev pub invariant-loop-line : goal.invariant-loop-line
invariant-loop-line l = l.lines ≡ l.fn.lines ++ l.yielded
