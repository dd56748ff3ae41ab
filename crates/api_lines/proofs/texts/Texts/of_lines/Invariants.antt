use Rattle.std.proofs.Common.{[], take}
use Rattle.go_base.specs.Growing.{Grows}
use Rattle.api_lines.specs.Lines.{HasText}
use Rattle.api_lines.proofs.texts.Texts.of_lines.Given as goal

abbrev pub invariant-loop-line : goal.invariant-loop-line
invariant-loop-line l = Grows (HasText (take l.line-index l.lines)) [] l.texts
