use Rattle.std.proofs.Common.{map, ◌∙◌}
use Rattle.go_declarations.specs.Listings.{declaration_of}
use Rattle.go_import_uses.proofs.SelectedPlaces.{counted, not_counted}
use Rattle.go_sources.specs.UnitSources.{import_of}
use Rattle.go_import_uses.proofs.places.add_counted.Goals as goal

pub returns-then-not-is_counted : goal.returns-then-not-is_counted
returns-then-not-is_counted c u e = not_counted u (declaration_of c.args.declaration.now) c.args.is_seen c.args.file _ c.is_counted.result c.if-not-is_counted.true c.is_counted.ensures

pub returns : goal.returns
returns c u e =
    counted u (declaration_of c.args.declaration.now) c.args.is_seen c.args.file _ _ c.is_counted.result c.if-not-is_counted.false c.is_counted.ensures
    (map import_of c.args.imports.now) c.items.result.now e (c.items.ensures ∙ c.in_ok-references.ensures) c.in_ok-add_all_selected.ensures
