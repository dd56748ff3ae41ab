use Rattle.std.proofs.Common.{◌≡◌, drop}
use Rattle.go_package_entries.specs.inner.ShownMethods.{are_had}
use Rattle.go_package_entries.specs.inner.TakenEntries.{entries_of}
use Rattle.go_package_entries.proofs.grown.are_had.Given as goal

abbrev pub invariant-loop-row : goal.invariant-loop-row
invariant-loop-row l = are_had (entries_of l.grown) (drop l.row-index l.rows) ≡ are_had (entries_of l.grown) l.rows
