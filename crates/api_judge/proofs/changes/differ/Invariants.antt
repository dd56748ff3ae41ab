use Rattle.std.proofs.Common.{◌≡◌, map, take}
use Rattle.api_lines.specs.Lines.{printed}
use Rattle.api_judge.proofs.changes.differ.Given as goal

abbrev pub invariant-loop-i : goal.invariant-loop-i
invariant-loop-i l = map printed (take l.i l.before) ≡ map printed (take l.i l.after)
