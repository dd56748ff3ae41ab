use Rattle.std.proofs.Common.{◌≡◌, ◌≤◌, ◌+◌, ◌-◌, length, drop}
use Rattle.go_lex.specs.inner.DigitLengths.{more_len}
use Rattle.go_lex.proofs.digits.more_len.Given as goal

abbrev pub invariant-loop-at : goal.invariant-loop-at
invariant-loop-at l = record { within : l.at ≤ length l.bytes; so_far : l.at + more_len l.base (drop l.at l.bytes) ≡ more_len l.base l.bytes }

abbrev pub decreases-loop-at : goal.decreases-loop-at
decreases-loop-at l = length l.bytes - l.at
