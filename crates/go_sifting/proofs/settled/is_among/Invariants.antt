use Rattle.std.proofs.Common.{◌≡◌, ℕ, true, take}
use Rattle.go_base.specs.Lists.{Has}
use Rattle.go_graphs.specs.Flags.{is_flagged}
use Rattle.go_sifting.proofs.settled.is_among.Given as goal

abbrev pub invariant-loop-number : goal.invariant-loop-number
invariant-loop-number l = (m : ℕ) → Has (take l.number-index l.row) m → is_flagged l.flags m ≡ true
