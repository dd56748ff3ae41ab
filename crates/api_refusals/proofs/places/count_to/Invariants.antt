use Rattle.std.proofs.Common.{◌-◌, ◌≤◌}
use Rattle.api_refusals.specs.inner.Counts.{Counts}
use Rattle.api_refusals.proofs.places.count_to.Given as goal

abbrev pub invariant-loop-count : goal.invariant-loop-count
invariant-loop-count l = Counts l.bytes l.count × (l.count.offset ≤ l.end)

abbrev pub decreases-loop-count : goal.decreases-loop-count
decreases-loop-count l = l.end - l.count.offset
