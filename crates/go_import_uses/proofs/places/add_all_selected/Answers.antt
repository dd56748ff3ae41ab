use Rattle.std.proofs.Common.{map}
use Rattle.go_import_uses.specs.inner.SelectedPlaces.{SelectsAt}
use Rattle.go_imports.proofs.GrowingSets.{grows_next}
use Rattle.go_sources.specs.UnitSources.{import_of}
use Rattle.go_import_uses.proofs.places.add_all_selected.Goals as goal

pub loop-reference-preserved : goal.loop-reference-preserved
loop-reference-preserved c =
    grows_next (SelectsAt (map import_of c.args.imports.now)) c.args.references.now c.loop-reference.reference-index c.reference-item.result _ c.loop-reference.places.keys c.add_selected.new.places.keys
    c.loop-reference-test.true c.reference-item.is c.loop-reference.invariant c.in_ok-add_selected.ensures
