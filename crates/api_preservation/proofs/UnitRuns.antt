-- The units of what is read for a module: the paths of those of the standard library and of the module, and what they import.
use Rattle.std.proofs.Common.{◌≡◌, ◌≢◌, ◌<◌, ℕ, zero, suc, Bool, true, false, List, [], ◌∷◌, map, length, refl, sym, ap, ◌∙◌, subst, inl, inr, arith}
use mathlib.Core.Bool.{true≢false}
use Rattle.std.specs.Prelude.{slice_get}
use Rattle.go_base.specs.Lists.{Has}
use Rattle.go_imports.proofs.Members.{has_at}
use Rattle.go_imports.specs.ImportPaths.{IsUnder}
use Rattle.go_model.specs.declared.files.platform.Platform.{Platform}
use Rattle.go_model.specs.declared.files.tree.Tree.{Tree}
use Rattle.go_model.specs.files.Trees.{IsTree, are_elements, begins_element, is_element}
use Rattle.go_model.specs.types.Terms.{client_path}
use Rattle.go_reading.proofs.ListFacts.{mapped_from}
use Rattle.go_reading.proofs.OneFolderList.{own_side}
use Rattle.go_reading.proofs.UnitPaths.{tree_elements}
use Rattle.go_reading.specs.TreeFolders.{IsTreeFolder}
use Rattle.go_sources.specs.UnitSources.{file_of, import_of, source_of}
use Rattle.go_std_worlds.proofs.OwnPaths.{own_paths}
use Rattle.go_std_worlds.proofs.SameFolders.{named_std}
use Rattle.go_std_worlds.specs.StdSources.{KeepStdApart}
use Rattle.go_std_worlds.specs.TwoModules.{sources_of}
use Rattle.go_typings.specs.Sources.{Import, PackageSource, imports_in}
use Rattle.go_units.proofs.FolderLookups.{at_once}
use Rattle.go_units.proofs.Giving.{given_by}
use Rattle.go_units.proofs.WalkedFiles.{slot_within}
use Rattle.go_units.specs.Folders.{NamesFolder, folder_of, no_folder}
use Rattle.go_units.specs.Reached.{is_std}
use Rattle.go_units.specs.UnitsOfModules.{AreUnits, GivesUnitFile, GivesUse, IsUnitOf, packages_in}
use Rattle.go_units.specs.declared.folder.Folder.{Folder}
use Rattle.go_units.specs.declared.unit.«Unit».{«Unit» as PackageUnit}
use Rattle.go_units.specs.declared.unit.UnitFile.{UnitFile}
use Rattle.go_units.specs.declared.unit.UsedImport.{UsedImport}
use Rattle.go_units.specs.declared.unit_list.Units.{Units}
use Rattle.api_kept_clients.specs.ServedUnits.{HaveOtherPaths}
use Rattle.api_preservation.proofs.Runs.{Run}

-- a path of elements isn't empty, and isn't a client's
elements_some : (path : List ℕ) → are_elements path ≡ true → path ≢ []
unfolding is_element begins_element
elements_some path e n = true≢false (sym (subst (λ (w : List ℕ). are_elements w ≡ true) n e))

elements_foreign : (path : List ℕ) → are_elements path ≡ true → path ≢ client_path
unfolding is_element begins_element
elements_foreign path e n = true≢false (sym (subst (λ (w : List ℕ). are_elements w ≡ true) n e))

-- an import of a unit as it is written is one of a file of it
pub import_from : (fs : List UnitFile) (file : ℕ) (i : Import) → Has (imports_in (slice_get (map file_of fs) file)) i → (g : UnitFile) × Has fs g × (x : UsedImport) × Has g.imports x × (import_of x ≡ i)
import_from [] file i h = absurd h
import_from (g ∷ fs) zero i h = let q = mapped_from import_of g.imports i h in (g, inl refl, q.0, q.1, q.2)
import_from (g ∷ fs) (suc n) i h = let q = import_from fs n i h in (q.0, inr q.1, q.2, q.3, q.4)

module _ (p : Platform) (barred : List (List ℕ)) (tree std_tree : Tree) (folders : List Folder) where
  -- what is read, and its units
  pub record UnitRun : Type 0 where
    pub run : Run p barred tree std_tree folders
    pub units : Units
    pub all : AreUnits tree.module folders run.slots units.packages

  module _ (r : UnitRun) where
    abbrev pub IsAt : ℕ → PackageUnit → Type 0
    IsAt n u = IsUnitOf tree.module folders r.run.slots n u

    pub unit_within : (u : PackageUnit) (n : ℕ) → IsAt n u → n < length folders
    unit_within u n k = let l = slot_within r.run.slots n k.members k.held in let rows = r.run.rows in omega (arith, l, rows)

    pub unit_folder : (u : PackageUnit) (n : ℕ) → IsAt n u → IsTreeFolder p barred tree std_tree (folder_of folders n)
    unit_folder u n k = r.run.are.sound (folder_of folders n) (has_at folders n no_folder (unit_within u n k))

    -- a unit of the standard library has no barred path
    pub std_apart : (u : PackageUnit) (root : List ℕ) → Has r.units.packages u → u.from_std ≡ true → Has barred root → IsUnder u.path root → ⊥
    std_apart u root h std bars under =
        let a = r.all.sound u h in
        ((unit_folder u a.0 a.1).counts (sym a.1.side ∙ std)).kept (inr (root, bars, subst (λ (w : List ℕ). IsUnder w root) a.1.path under))

    -- a unit of the module stands at or under its path
    pub own_under : (u : PackageUnit) → Has r.units.packages u → u.from_std ≡ false → IsUnder u.path tree.module
    own_under u h own =
        let a = r.all.sound u h in
        subst (λ (w : List ℕ). IsUnder w tree.module) (sym a.1.path) (own_side p barred tree std_tree (folder_of folders a.0) (unit_folder u a.0 a.1) (sym a.1.side ∙ own))

    std_import : (u v : PackageUnit) (file : ℕ) (i : Import) → Has r.units.packages u → Has r.units.packages v → u.from_std ≡ true → Has (imports_in (slice_get (map file_of u.files) file)) i → i.is_found ≡ true → v.path ≡ i.path → v.from_std ≡ true
    std_import u v file i h l std has found path =
        let a = r.all.sound u h in
        let b = r.all.sound v l in
        let packages = packages_in r.run.slots in
        let side : is_std folders a.0 ≡ true = sym a.1.side ∙ std in
        let q = import_from u.files file i has in
        let f = given_by (GivesUnitFile tree.module folders packages (is_std folders a.0)) a.1.given q.0 q.1 in
        let x = given_by (GivesUse tree.module folders packages (is_std folders a.0)) f.2.given q.2 q.3 in
        let there = x.2.is_found.0 (ap (λ (z : Import). z.is_found) q.4 ∙ found) in
        let m = there.0 in
        let named = subst (λ (s : Bool). NamesFolder tree.module folders s x.0.path m) side there.1.names in
        let same : b.0 ≡ m = at_once folders x.0.path m b.0 r.run.are.ordered (named.within, named.same) (unit_within v b.0 b.1, sym b.1.path ∙ path ∙ sym (ap (λ (z : Import). z.path) q.4) ∙ x.2.path) in
        b.1.side ∙ ap (is_std folders) same ∙ named_std tree.module folders x.0.path m named

    pub apart : KeepStdApart (sources_of r.units)
    apart = record {
      own_paths = own_paths r.units;
      std_imports = λ u v file i h l std has found path. (
          let a = mapped_from source_of r.units.packages u h in
          let b = mapped_from source_of r.units.packages v l in
          sym (ap (λ (z : PackageSource). z.from_std) b.2)
          ∙ std_import a.0 b.0 file i a.1 b.1 (ap (λ (z : PackageSource). z.from_std) a.2 ∙ std)
          (subst (λ (z : PackageSource). Has (imports_in (slice_get z.files file)) i) (sym a.2) has) found (ap (λ (z : PackageSource). z.path) b.2 ∙ path)
          );
    }

    pub other_paths : IsTree tree → IsTree std_tree → tree.module ≢ [] → HaveOtherPaths (sources_of r.units)
    other_paths own std some u h =
        let x = mapped_from source_of r.units.packages u h in
        let k = r.all.sound x.0 x.1 in
        let path : (folder_of folders k.0).path ≡ u.path = sym k.1.path ∙ ap (λ (z : PackageSource). z.path) x.2 in
        let e : are_elements u.path ≡ true = subst (λ (w : List ℕ). are_elements w ≡ true) path (tree_elements p barred tree std_tree own std some (folder_of folders k.0) (unit_folder x.0 k.0 k.1)) in
        (elements_some u.path e, elements_foreign u.path e)
