use Rattle.std.proofs.Common.{◌≡◌, ◌<◌, ℕ}
use Rattle.go_declared.specs.inner.NextAliases.{step}
use Rattle.go_declared.proofs.aliases.stays.Given as goal

abbrev pub invariant-loop-number : goal.invariant-loop-number
invariant-loop-number l = (i : ℕ) → i < l.number → step l.numbers i ≡ i
