use Rattle.std.proofs.Common.{◌≡◌, ℕ, ◌<◌, true}
use Rattle.go_graphs.specs.Flags.{is_flagged}
use Rattle.go_sifting.proofs.settled.all_flagged.Given as goal

abbrev pub invariant-loop-number : goal.invariant-loop-number
invariant-loop-number l = (m : ℕ) → m < l.number → is_flagged l.flags m ≡ true
