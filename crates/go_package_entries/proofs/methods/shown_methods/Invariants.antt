use Rattle.std.proofs.Common.{◌≡◌, ◌++◌, drop}
use Rattle.go_declarations.specs.Listings.{declarations_of}
use Rattle.go_package_entries.specs.inner.ShownMethods.{shown_of}
use Rattle.go_package_entries.specs.inner.TakenEntries.{entries_of}
use Rattle.go_package_entries.proofs.methods.shown_methods.Given as goal

abbrev pub invariant-loop-row : goal.invariant-loop-row
invariant-loop-row l =
    l.shown ++ shown_of (entries_of l.grown) (declarations_of l.tables.declarations.now) l.env.path l.tables.namesakes l.type_name (drop l.row-index l.row-items)
    ≡ shown_of (entries_of l.grown) (declarations_of l.tables.declarations.now) l.env.path l.tables.namesakes l.type_name l.row-items
