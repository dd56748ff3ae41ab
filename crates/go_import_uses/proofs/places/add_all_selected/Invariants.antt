use Rattle.std.proofs.Common.{map, take}
use Rattle.go_base.specs.Growing.{Grows}
use Rattle.go_import_uses.specs.inner.SelectedPlaces.{SelectsAt}
use Rattle.go_imports.proofs.GrowingSets.{OfSome}
use Rattle.go_sources.specs.UnitSources.{import_of}
use Rattle.go_import_uses.proofs.places.add_all_selected.Given as goal

abbrev pub invariant-loop-reference : goal.invariant-loop-reference
invariant-loop-reference l = Grows (OfSome (SelectsAt (map import_of l.imports)) (take l.reference-index l.references)) l.fn.places.keys l.places.keys
