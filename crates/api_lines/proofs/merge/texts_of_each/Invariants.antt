use Rattle.std.proofs.Common.{take}
use Rattle.api_lines.specs.inner.AddedLines.{AreTexts}
use Rattle.api_lines.proofs.merge.texts_of_each.Given as goal

abbrev pub invariant-loop-lines : goal.invariant-loop-lines
invariant-loop-lines l = AreTexts (take l.lines-index l.lists) l.all.items
