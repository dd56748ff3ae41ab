-- Whether a reference selects from an import, by what its name means.
use Rattle.std.proofs.Common.{◌≡◌, Bool, true, false, List, None, Some, refl, sym, ap, ◌∙◌}
use Rattle.std.specs.Prelude.{not}
use Rattle.go_graphs.proofs.Flagging.{apart}
use Rattle.go_import_uses.specs.Selecting.{Selects, SelectsNone, import_in}
use Rattle.go_references.specs.References.{is_selected}
use Rattle.go_references.specs.declared.references.Reference.{Reference}
use Rattle.go_selectors.specs.Answers.{Decides}
use Rattle.go_sources.specs.UnitSources.{import_of}
use Rattle.go_typings.proofs.Cells.{none_some, some_once}
use Rattle.go_typings.specs.Sources.{Import}
use Rattle.go_units.specs.declared.unit.UsedImport.{UsedImport}

module _ (is : List Import) (r : Reference) where
  pub not_selected : (i : Import) → is_selected r.selected ≡ false → Selects is r i → ⊥
  not_selected i e k = apart (sym k.selects ∙ e)

  pub nothing_selected : (i : Import) → None ≡ import_in is r.name.text → Selects is r i → ⊥
  nothing_selected i e k = none_some (import_in is r.name.text) i (sym e) k.means

  none_selected_by : (i : UsedImport) (b : Bool) → i.found ≡ b → is_selected r.selected ≡ true → Some (import_of i) ≡ import_in is r.name.text → Decides (not b) (SelectsNone is r)
  none_selected_by i true f e w = λ k. (let q : import_of i ≡ k.«import» = some_once (import_of i) k.«import» (w ∙ k.selects.means) in apart (sym f ∙ ap (λ (j : Import). j.is_found) q ∙ k.missing))
  none_selected_by i false f e w = record { «import» = import_of i; selects = record { selects = e; means = sym w }; missing = f }

  pub none_selected : (i : UsedImport) → is_selected r.selected ≡ true → Some (import_of i) ≡ import_in is r.name.text → Decides (not i.found) (SelectsNone is r)
  none_selected i e w = none_selected_by i i.found refl e w

  pub same_selected : (i j : UsedImport) (b : Bool) → is_selected r.selected ≡ true → Some (import_of i) ≡ import_in is r.name.text → Decides b (import_of i ≡ import_of j) → Decides b (Selects is r (import_of j))
  same_selected i j true e w d = record { selects = e; means = sym w ∙ ap (λ (x : Import). Some x) d }
  same_selected i j false e w d = λ k. d (some_once (import_of i) (import_of j) (w ∙ k.means))
