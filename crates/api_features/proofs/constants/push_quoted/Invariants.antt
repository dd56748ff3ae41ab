use Rattle.std.proofs.Common.{length, ◌-◌}
use Rattle.api_features.proofs.ValueTexts.{Quoting}
use Rattle.api_features.proofs.constants.push_quoted.Given as goal

abbrev pub invariant-loop-at : goal.invariant-loop-at
invariant-loop-at l = Quoting l.bytes l.fn.out.items l.out.items l.at

abbrev pub decreases-loop-at : goal.decreases-loop-at
decreases-loop-at l = length l.bytes - l.at
