use Rattle.std.proofs.Common.{take}
use Rattle.go_base.specs.Growing.{Grows}
use Rattle.api_further_breaks.specs.inner.Losses.{AreOfLosses}
use Rattle.api_further_breaks.proofs.breaks.push_losses.Given as goal

abbrev pub invariant-loop-lost : goal.invariant-loop-lost
invariant-loop-lost l = Grows (AreOfLosses l.owner (take l.lost-index l.losses)) l.fn.breaks.items l.breaks.items
