use Rattle.std.proofs.Common.{◌≡◌, ◌≤◌, drop, length, false, ◌==◌}
use Rattle.std.specs.List.{All}
use Rattle.go_tags.proofs.choice.cut_at_last.Given as goal

abbrev pub invariant-loop-at : goal.invariant-loop-at
invariant-loop-at l = record { within : l.at ≤ length l.parts; apart : All (λ b. (b == 95) ≡ false) (drop l.at l.parts) }

abbrev pub decreases-loop-at : goal.decreases-loop-at
decreases-loop-at l = l.at
