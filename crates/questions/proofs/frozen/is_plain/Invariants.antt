use Rattle.std.proofs.Common.{take}
use Rattle.go_base.specs.Lists.{Each}
use Rattle.api_lines.specs.Merging.{HasNoContext}
use Rattle.questions.proofs.frozen.is_plain.Given as goal

abbrev pub invariant-loop-line : goal.invariant-loop-line
invariant-loop-line l = Each HasNoContext (take l.line-index l.lines)
