use Rattle.std.proofs.Common.{◌≡◌, ℕ, ◌<◌, false}
use Rattle.go_graphs.specs.Flags.{is_flagged}
use Rattle.go_sifting.proofs.settled.none_flagged.Given as goal

abbrev pub invariant-loop-number : goal.invariant-loop-number
invariant-loop-number l = (m : ℕ) → m < l.number → is_flagged l.flags m ≡ false
