use Rattle.std.proofs.Common.{◌≡◌, ◌++◌, drop, map}
use Rattle.go_base.specs.Gathered.{gather}
use Rattle.go_declarations.specs.Listings.{declarations_of}
use Rattle.go_entries.specs.HadEntries.{entries_at}
use Rattle.go_packages.specs.inner.HadMethods.{had_by, method_at}
use Rattle.go_packages.proofs.methods.methods_by.Given as goal

abbrev pub invariant-loop-row : goal.invariant-loop-row
invariant-loop-row l =
    l.listed ++ gather (had_by (entries_at l.had)) (map (method_at l.path (declarations_of l.declarations)) (drop l.row-index l.rows))
    ≡ gather (had_by (entries_at l.had)) (map (method_at l.path (declarations_of l.declarations)) l.rows)
