use Rattle.std.proofs.Common.{◌≡◌, List, ap, map, sym, ◌∙◌}
use Rattle.go_import_uses.proofs.SelectedPlaces.{none_placed, nothing_placed, one_placed}
use Rattle.go_import_uses.specs.Selecting.{import_in}
use Rattle.go_references.specs.declared.references.Reference.{Reference}
use Rattle.go_sources.specs.UnitSources.{import_of}
use Rattle.go_typings.specs.Sources.{Import}
use Rattle.go_import_uses.proofs.places.add_selected.Goals as goal

named : (is : List Import) (v w : Reference) → v ≡ w → import_in is v.name.text ≡ import_in is w.name.text
named is v w e = ap (λ (z : Reference). import_in is z.name.text) e

pub returns-then-not-is_selected : goal.returns-then-not-is_selected
returns-then-not-is_selected c = none_placed (map import_of c.args.imports.now) c.args.reference.now _ (sym c.is_selected.ensures ∙ c.if-not-is_selected.true)

pub returns-in_ok-put-in-Some : goal.returns-in_ok-put-in-Some
returns-in_ok-put-in-Some c =
    one_placed (map import_of c.args.imports.now) c.args.reference.now c.in-Some.found.now _ _ (sym c.is_selected.ensures ∙ c.if-not-is_selected.false)
    (c.in-Some.ensures ∙ named (map import_of c.args.imports.now) _ c.args.reference.now c.reference.view_is) c.in_ok-put-in-Some.ensures

pub returns-in-None : goal.returns-in-None
returns-in-None c = nothing_placed (map import_of c.args.imports.now) c.args.reference.now _ (c.in-None.ensures ∙ named (map import_of c.args.imports.now) _ c.args.reference.now c.reference.view_is)
