use Rattle.std.proofs.Common.{◌≡◌, ◌≤◌, length, drop, true}
use Rattle.std.specs.Char.{is_ascii_digit}
use Rattle.go_base.specs.Lists.{Each}
use Rattle.api_frozen.proofs.file.digits_start.Given as goal

abbrev pub invariant-loop-at : goal.invariant-loop-at
invariant-loop-at l = record { within : l.at ≤ length l.line; digits : Each (λ b. is_ascii_digit b ≡ true) (drop l.at l.line) }

abbrev pub decreases-loop-at : goal.decreases-loop-at
decreases-loop-at l = l.at
