use Rattle.std.proofs.Common.{take}
use Rattle.api_lines.proofs.AddedLines.{IsInAll}
use Rattle.api_lines.proofs.merge.is_in_all.Given as goal

abbrev pub invariant-loop-texts : goal.invariant-loop-texts
invariant-loop-texts l = IsInAll (take l.texts-index l.all) l.text
