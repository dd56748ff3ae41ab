use Rattle.std.proofs.Common.{◌≡◌, None, replicate}
use Rattle.go_met.proofs.bases.no_bases.Given as goal

abbrev pub invariant-loop : goal.invariant-loop
invariant-loop l = l.told.items ≡ replicate l.counter None
