use Rattle.std.proofs.Common.{map}
use Rattle.go_import_uses.proofs.OneOf.{AreLeft}
use Rattle.go_import_uses.specs.Selecting.{Selects}
use Rattle.go_sources.specs.UnitSources.{import_of}
use Rattle.go_import_uses.proofs.needed.one_selects.Given as goal

abbrev pub invariant-loop-reference : goal.invariant-loop-reference
invariant-loop-reference l = AreLeft (λ r. Selects (map import_of l.imports) r (import_of l.«import»)) l.references l.reference-index
