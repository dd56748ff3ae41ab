use Rattle.std.proofs.Common.{◌≡◌, replicate, None}
use Rattle.go_entries.proofs.had.HadEntries.new.Given as goal

abbrev pub invariant-loop : goal.invariant-loop
invariant-loop l = l.entries.items ≡ replicate l.counter None
