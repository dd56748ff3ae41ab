use Rattle.std.proofs.Common.{take}
use Rattle.go_base.specs.Growing.{Grows}
use Rattle.api_frozen.specs.inner.SignedLines.{IsGainOf}
use Rattle.api_frozen.proofs.compare.add_gains.Given as goal

abbrev pub invariant-loop-feature : goal.invariant-loop-feature
invariant-loop-feature l = Grows (IsGainOf l.required (take l.feature-index l.features)) l.fn.lines l.lines
