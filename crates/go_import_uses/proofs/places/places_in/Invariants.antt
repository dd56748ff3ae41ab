use Rattle.go_import_uses.specs.inner.SelectedPlaces.{HoldsBelow}
use Rattle.go_sources.specs.UnitSources.{source_of}
use Rattle.go_import_uses.proofs.places.places_in.Given as goal

abbrev pub invariant-loop-number : goal.invariant-loop-number
invariant-loop-number l = HoldsBelow (source_of l.«unit») l.declarations l.seen l.file l.number l.places.keys
