use Rattle.std.proofs.Common.{[], take}
use Rattle.go_base.specs.Growing.{Grows}
use Rattle.api_lines.proofs.Growing.{OfSome}
use Rattle.api_lines.proofs.AddedLines.{IsCommonText}
use Rattle.api_lines.proofs.merge.common_texts.Given as goal

abbrev pub invariant-loop-line : goal.invariant-loop-line
invariant-loop-line l = Grows (OfSome (IsCommonText l.all.items) (take l.line-index l.first)) [] l.common
