use Rattle.std.proofs.Common.{map}
use Rattle.go_import_uses.proofs.OneOf.{AreLeft}
use Rattle.go_import_uses.specs.Selecting.{SelectsNone}
use Rattle.go_sources.specs.UnitSources.{import_of}
use Rattle.go_import_uses.proofs.missing.one_selects_none.Given as goal

abbrev pub invariant-loop-reference : goal.invariant-loop-reference
invariant-loop-reference l = AreLeft (SelectsNone (map import_of l.imports)) l.references l.reference-index
