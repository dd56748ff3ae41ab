-- The packages of folders that are read have units.
use Rattle.std.proofs.Common.{◌≡◌, ◌⊎◌, ℕ, zero, suc, ◌+◌, ◌<◌, ◌≤◌, Bool, true, false, List, [], ◌∷◌, ◌++◌, length, get_or, set, Option, Some, None, refl, sym, ap, ◌∙◌, subst, inl, inr, arith}
use mathlib.Core.Bool.{true≢false}
use Rattle.go_base.specs.Lists.{Has}
use Rattle.go_existence.specs.Existence.{NotNone}
use Rattle.go_existence.proofs.DoubleNegation.{decided, less_or, so, sure, bind}
use Rattle.go_imports.proofs.Members.{get_or_same}
use Rattle.go_imports.specs.Gives.{Gives}
use Rattle.go_imports.specs.Orders.{IsCanonical}
use Rattle.go_imports.specs.declared.used_imports.NamedImport.{NamedImport}
use Rattle.go_unit_outcomes.proofs.GivenLists.{given}
use Rattle.go_units.proofs.Giving.{given_by, gives_as_many}
use Rattle.go_units.proofs.UnitOrdering.{held_read, making_first, making_next, units_are}
use Rattle.go_units.specs.Folders.{AreOrdered, IsFound, folder_of}
use Rattle.go_units.specs.Reached.{ReadFolders, is_std, slot}
use Rattle.go_units.specs.UnitFacts.{UnitFilesAreNamed, needed_by}
use Rattle.go_units.specs.UnitsOfModules.{AreNeeds, GivesUnitFile, GivesUse, packages_in}
use Rattle.go_units.specs.declared.folder.Folder.{Folder}
use Rattle.go_units.specs.declared.package_uses.PackageFile.{PackageFile}
use Rattle.go_units.specs.declared.unit.UnitFile.{UnitFile}
use Rattle.go_units.specs.declared.unit.UsedImport.{UsedImport}
use Rattle.go_units.specs.declared.unit.«Unit».{«Unit» as PackageUnit}
use Rattle.go_units.specs.inner.UnitMaking.{AreAlike, IsUnitWith}
use Rattle.go_units.specs.inner.UnitOrder.{AddsUnit, AreReadable, Making, UnitsAre}

module _ (module_path : List ℕ) (folders : List Folder) (packages : List Bool) where
  -- ---- one unit

  use_of : (from_std : Bool) (u : NamedImport) → NotNone ((r : Option UsedImport) × GivesUse module_path folders packages from_std u r)
  use_of from_std u = so (decided ((m : ℕ) × IsFound module_path folders packages from_std u.path m)) (λ d. elim d [
    | inl m ↦ (Some (record { name = u.name; path = u.path; found = true; place = u.place }), record { names = refl; path = refl; place = refl; is_found = ((λ e. m), (λ k. refl)) })
    | inr never ↦ (Some (record { name = u.name; path = u.path; found = false; place = u.place }), record { names = refl; path = refl; place = refl; is_found = ((λ e. absurd (true≢false (sym e))), (λ k. absurd (never k))) })
  ])

  file_of : (from_std : Bool) (f : PackageFile) → NotNone ((r : Option UnitFile) × GivesUnitFile module_path folders packages from_std f r)
  file_of from_std f = so (given (GivesUse module_path folders packages from_std) f.uses (λ u h. use_of from_std u)) (λ g. (
    Some (record { path = f.path; outline = f.outline; imports = g.0 }),
    record { path = refl; reads = refl; given = g.1 },
  ))

  no_file : (from_std : Bool) (f : PackageFile) → GivesUnitFile module_path folders packages from_std f None → ⊥
  no_file from_std f k = k

  named : (from_std : Bool) (files : List PackageFile) (gs : List UnitFile) (f : PackageFile) → AreAlike files → Has files f → Gives (GivesUnitFile module_path folders packages from_std) files gs → UnitFilesAreNamed gs f.outline.«package».text
  named from_std files gs f alike h g x k =
      let p = given_by (GivesUnitFile module_path folders packages from_std) g x k in
      ap (λ o. o.«package».text) p.2.reads ∙ alike p.0 f p.1 h

  unit_of : (n : ℕ) (f : PackageFile) (fs : List PackageFile) → AreAlike (f ∷ fs) → length (f ∷ fs) < 4294967296 → NotNone ((u : PackageUnit) × IsUnitWith module_path folders packages n (f ∷ fs) u)
  unit_of n f fs alike few = so (given (GivesUnitFile module_path folders packages (is_std folders n)) (f ∷ fs) (λ x h. file_of (is_std folders n) x)) (λ g.
      let many : length g.0 ≡ length (f ∷ fs) = gives_as_many (GivesUnitFile module_path folders packages (is_std folders n)) (no_file (is_std folders n)) g.1 in (
        record {
          path = (folder_of folders n).path;
          name = f.outline.«package».text;
          from_std = is_std folders n;
          files = g.0;
          needs = needed_by g.0;
          few = omega (arith, many, few);
          named = named (is_std folders n) (f ∷ fs) g.0 f alike (inl refl) g.1;
          needed = refl;
        },
        record { path = refl; side = refl; given = g.1; some = omega (arith, many) },
      ))

  -- a unit is added, where a folder holds a package
  added : (n : ℕ) (held : Option (List PackageFile)) (units : List PackageUnit) → ((files : List PackageFile) → held ≡ Some files → (length files < 4294967296) × AreAlike files)
      → NotNone ((more : List PackageUnit) × AddsUnit module_path folders packages n held units more)
  added n None units readable = sure (units, inl (refl, refl))
  added n (Some []) units readable = sure (units, inl (refl, refl))
  added n (Some (f ∷ fs)) units readable = let r = readable (f ∷ fs) refl in so (unit_of n f fs r.1 r.0) (λ u. (units ++ u.0 ∷ [], inr (f ∷ fs, refl, u.0, u.1, refl)))

-- ---- all units

module _ (module_path : List ℕ) (folders : List Folder) (ordered : AreOrdered folders) (slots : ReadFolders) (rows : length slots ≡ length folders) (readable : AreReadable slots)
    (graph : List (List ℕ)) (needs : AreNeeds module_path folders slots graph) (order : List ℕ) (canonical : IsCanonical graph order) where
  abbrev Made : ℕ → Type 0
  Made at = (left : ReadFolders) × (units : List PackageUnit) × Making module_path folders slots order at left units

  made_next : (at : ℕ) → at < length order → Made at → NotNone (Made (at + 1))
  made_next at h m =
      let n = get_or order at 0 in
      let is : n ≡ get_or order at n = get_or_same order at 0 n h in
      let kept : (files : List PackageFile) → slot m.0 n ≡ Some files → (length files < 4294967296) × AreAlike files =
      λ files e. readable n files (held_read module_path folders ordered slots rows graph needs order canonical at m.1 m.2.made m.0 (set m.0 n None) m.2 n h is refl (Some files) (sym e)) in
      so (added module_path folders (packages_in slots) n (slot m.0 n) m.1 kept) (λ k. (
        set m.0 n None,
        k.0,
        making_next module_path folders ordered slots rows graph needs order canonical at m.1 m.2.made m.0 (set m.0 n None) m.2 n h is refl (slot m.0 n) k.0 refl k.1,
      ))

  made_to : (at : ℕ) → at ≤ length order → NotNone (Made at)
  made_to zero h = sure (slots, [], making_first module_path folders ordered slots rows graph needs order canonical slots [] refl refl)
  made_to (suc at) h = bind (made_to at (omega (arith, h))) (λ m. so (made_next at (omega (arith, h)) m) (subst Made (let e : at + 1 ≡ suc at = omega arith in e)))

  pub units_made : NotNone ((units : List PackageUnit) × UnitsAre module_path folders slots units)
  units_made = so (made_to (length order) (omega arith)) (λ m. (m.1, units_are module_path folders ordered slots rows graph needs order canonical (length order) m.0 m.1 (omega arith) m.2))
