use Rattle.std.proofs.Common.{◌≡◌, List, ap, map, sym, ◌∙◌}
use Rattle.go_import_uses.proofs.Selected.{none_selected, not_selected, nothing_selected}
use Rattle.go_sources.specs.UnitSources.{import_of}
use Rattle.go_import_uses.specs.Selecting.{import_in}
use Rattle.go_references.specs.declared.references.Reference.{Reference}
use Rattle.go_typings.specs.Sources.{Import}
use Rattle.go_import_uses.proofs.missing.selects_none.Goals as goal

named : (is : List Import) (v w : Reference) → v ≡ w → import_in is v.name.text ≡ import_in is w.name.text
named is v w e = ap (λ (z : Reference). import_in is z.name.text) e

pub returns-then-not-is_selected : goal.returns-then-not-is_selected
returns-then-not-is_selected c = λ k. not_selected (map import_of c.args.imports.now) c.args.reference.now k.«import» (sym c.is_selected.ensures ∙ c.if-not-is_selected.true) k.selects

pub returns-in-Some : goal.returns-in-Some
returns-in-Some c = none_selected (map import_of c.args.imports.now) c.args.reference.now c.in-Some.«import».now (sym c.is_selected.ensures ∙ c.if-not-is_selected.false) (c.in-Some.ensures ∙ named (map import_of c.args.imports.now) _ c.args.reference.now c.reference.view_is)

pub returns-in-None : goal.returns-in-None
returns-in-None c = λ k. nothing_selected (map import_of c.args.imports.now) c.args.reference.now k.«import» (c.in-None.ensures ∙ named (map import_of c.args.imports.now) _ c.args.reference.now c.reference.view_is) k.selects
