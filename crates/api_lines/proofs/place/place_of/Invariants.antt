use Rattle.std.proofs.Common.{take}
use Rattle.api_lines.specs.Lines.{printed}
use Rattle.api_lines.specs.inner.MergedLines.{AreBefore}
use Rattle.api_lines.proofs.place.place_of.Given as goal

abbrev pub invariant-loop-i : goal.invariant-loop-i
invariant-loop-i l = AreBefore (printed l.line) (take l.i l.lines)
