use Rattle.std.proofs.Common.{take}
use Rattle.go_base.specs.Growing.{Grows}
use Rattle.api_lines.specs.inner.AddedLines.{IsAddedFrom}
use Rattle.api_lines.proofs.merge.add_lines.Given as goal

abbrev pub invariant-loop-line : goal.invariant-loop-line
invariant-loop-line l = Grows (IsAddedFrom l.common l.context (take l.line-index l.lines)) l.fn.merged l.merged
