use Rattle.std.proofs.Common.{◌≡◌, ℕ, ◌<◌, true}
use Rattle.go_graphs.specs.Flags.{is_flagged}
use Rattle.go_graphs.proofs.levels.all_set.Given as goal

abbrev pub invariant-loop-found : goal.invariant-loop-found
invariant-loop-found l = (n : ℕ) → n < l.found-index → is_flagged l.flags n ≡ true
