use Rattle.std.proofs.Common.{◌≡◌, ℕ, true, take, ◌⊎◌}
use Rattle.go_base.specs.Lists.{Has}
use Rattle.go_graphs.specs.Flags.{is_flagged}
use Rattle.go_graphs.proofs.flags.flag_each.Given as goal

abbrev pub invariant-loop-number : goal.invariant-loop-number
invariant-loop-number l = record {
  sound : (n : ℕ) → is_flagged l.flags n ≡ true → (is_flagged l.initial.flags n ≡ true) ⊎ Has (take l.number-index l.numbers) n;
  kept : (n : ℕ) → is_flagged l.initial.flags n ≡ true → is_flagged l.flags n ≡ true;
  complete : (n : ℕ) → Has (take l.number-index l.numbers) n → is_flagged l.flags n ≡ true;
}
