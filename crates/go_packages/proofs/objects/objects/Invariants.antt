use Rattle.std.proofs.Common.{◌≡◌, ◌++◌, drop}
use Rattle.go_declarations.specs.Listings.{declarations_of}
use Rattle.go_declared.specs.NameTables.{texts_of}
use Rattle.go_entries.specs.HadEntries.{entries_at}
use Rattle.go_packages.specs.inner.NamedObjects.{denoted, objects_named}
use Rattle.go_packages.proofs.objects.objects.Given as goal

abbrev pub invariant-loop-name : goal.invariant-loop-name
invariant-loop-name l =
    l.objects ++ objects_named (denoted l.path (entries_at l.had) (declarations_of l.declarations)) (texts_of (drop l.name-index l.listed))
    ≡ objects_named (denoted l.path (entries_at l.had) (declarations_of l.declarations)) (texts_of l.listed)
