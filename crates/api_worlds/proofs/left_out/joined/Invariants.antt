use Rattle.std.proofs.Common.{◌≡◌}
use Rattle.api_worlds.specs.LeftOut.{all_lines}
use Rattle.api_worlds.proofs.left_out.joined.Given as goal

abbrev pub invariant-loop-package : goal.invariant-loop-package
invariant-loop-package l = l.lines ≡ all_lines l.yielded
