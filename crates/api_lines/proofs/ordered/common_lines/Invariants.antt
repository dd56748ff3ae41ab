use Rattle.std.proofs.Common.{take}
use Rattle.go_base.specs.Growing.{Grows}
use Rattle.api_lines.specs.inner.MergedLines.{AreExactly, IsOwn, IsTextOnAll}
use Rattle.api_lines.proofs.Parts.{IsOfAll}
use Rattle.api_lines.proofs.ordered.common_lines.Given as goal

abbrev pub invariant-loop-lines : goal.invariant-loop-lines
invariant-loop-lines l =
    AreExactly (IsOfAll l.fn.first (take l.lines-index l.others)) l.common × Grows (IsOwn (IsTextOnAll (take l.lines-index l.others)) l.platform l.fn.first) l.fn.merged l.merged
