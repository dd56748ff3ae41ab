use Rattle.std.proofs.Common.{take}
use Rattle.go_base.specs.Growing.{Grows}
use Rattle.api_frozen.specs.inner.SignedLines.{IsLossOf}
use Rattle.api_frozen.proofs.compare.add_losses.Given as goal

abbrev pub invariant-loop-text : goal.invariant-loop-text
invariant-loop-text l = Grows (IsLossOf l.held l.exceptions (take l.text-index l.required)) l.fn.lines l.lines
