use Rattle.std.proofs.Common.{length, ◌-◌}
use Rattle.go_base.proofs.Fronts.{Passing}
use Rattle.go_base.proofs.comments.past_front.Given as goal

abbrev pub invariant-loop-len : goal.invariant-loop-len
invariant-loop-len l = Passing l.bytes l.at

abbrev pub decreases-loop-len : goal.decreases-loop-len
decreases-loop-len l = length l.bytes - l.at
