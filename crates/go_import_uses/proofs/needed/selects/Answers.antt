use Rattle.std.proofs.Common.{◌≡◌, List, ap, map, sym, ◌∙◌}
use Rattle.go_import_uses.proofs.Selected.{not_selected, nothing_selected, same_selected}
use Rattle.go_sources.specs.UnitSources.{import_of}
use Rattle.go_import_uses.specs.Selecting.{import_in}
use Rattle.go_references.specs.declared.references.Reference.{Reference}
use Rattle.go_typings.specs.Sources.{Import}
use Rattle.go_import_uses.proofs.needed.selects.Goals as goal

named : (is : List Import) (v w : Reference) → v ≡ w → import_in is v.name.text ≡ import_in is w.name.text
named is v w e = ap (λ (z : Reference). import_in is z.name.text) e

pub returns-then-not-is_selected : goal.returns-then-not-is_selected
returns-then-not-is_selected c = not_selected (map import_of c.args.imports.now) c.args.reference.now (import_of c.args.«import».now) (sym c.is_selected.ensures ∙ c.if-not-is_selected.true)

pub returns-in-Some : goal.returns-in-Some
returns-in-Some c = same_selected (map import_of c.args.imports.now) c.args.reference.now c.in-Some.found.now c.args.«import».now c.is_same.result (sym c.is_selected.ensures ∙ c.if-not-is_selected.false) (c.in-Some.ensures ∙ named (map import_of c.args.imports.now) _ c.args.reference.now c.reference.view_is) c.is_same.ensures

pub returns-in-None : goal.returns-in-None
returns-in-None c = nothing_selected (map import_of c.args.imports.now) c.args.reference.now (import_of c.args.«import».now) (c.in-None.ensures ∙ named (map import_of c.args.imports.now) _ c.args.reference.now c.reference.view_is)
