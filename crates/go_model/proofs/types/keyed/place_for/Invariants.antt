use Rattle.std.proofs.Common.{◌-◌}
use Rattle.go_base.proofs.Ordered.{Parted}
use Rattle.go_model.proofs.types.keyed.place_for.Given as goal

abbrev pub invariant-loop-low : goal.invariant-loop-low
invariant-loop-low g l = Parted g.K.Keyed.key l.items l.key l.low l.high

abbrev pub decreases-loop-low : goal.decreases-loop-low
decreases-loop-low g l = l.high - l.low
