use Rattle.std.proofs.Common.{List, ◌++◌, drop}
use Rattle.go_declared.specs.NameTables.{texts_of}
use Rattle.go_entries.specs.HadEntries.{entries_at}
use Rattle.go_model.specs.declared.types.package.Defined.{Defined}
use Rattle.go_packages.specs.inner.DefinedTypes.{AreDefined}
use Rattle.go_sources.specs.UnitSources.{source_of}
use Rattle.go_typings.specs.PackageEnvironments.{own_defined}
use Rattle.go_packages.proofs.defined.defined_types.Given as goal

abbrev pub invariant-loop-name : goal.invariant-loop-name
invariant-loop-name l =
    (more : List Defined) → AreDefined (own_defined (source_of l.unit) (entries_at l.had)) (texts_of (drop l.name-index l.listed)) more
    → AreDefined (own_defined (source_of l.unit) (entries_at l.had)) (texts_of l.listed) (l.types ++ more)
