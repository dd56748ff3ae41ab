use Rattle.std.proofs.Common.{length, ◌-◌}
use Rattle.go_tags.proofs.OneCut.{Cutting}
use Rattle.go_tags.proofs.parts.parts_of.Given as goal

abbrev pub invariant-loop-at : goal.invariant-loop-at
invariant-loop-at l = Cutting l.text l.parts l.at

abbrev pub decreases-loop-at : goal.decreases-loop-at
decreases-loop-at l = length l.text - l.at
