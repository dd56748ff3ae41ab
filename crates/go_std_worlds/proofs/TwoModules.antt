-- The units of two modules over one tree of the standard library, and their worlds.
use Rattle.std.proofs.Common.{◌≡◌, ◌≢◌, ◌<◌, ℕ, zero, suc, Bool, true, false, Some, Ok, List, [], ◌∷◌, map, length, refl, sym, ap, ◌∙◌, subst, inl, inr, arith}
use Rattle.std.specs.Prelude.{slice_get}
use Rattle.go_base.specs.Keys.{first_with}
use Rattle.go_base.specs.Lists.{Has}
use Rattle.go_imports.proofs.Members.{has_at}
use Rattle.go_imports.specs.ImportPaths.{IsUnder}
use Rattle.go_model.specs.declared.files.platform.Platform.{Platform}
use Rattle.go_model.specs.declared.files.tree.Tree.{Tree}
use Rattle.go_model.specs.declared.files.tree.TreeFile.{TreeFile}
use Rattle.go_model.specs.declared.types.package.Package.{Package}
use Rattle.go_model.specs.worlds.Worlds.{Packages, path_of}
use Rattle.go_reading.proofs.ListFacts.{mapped_from}
use Rattle.go_reading.proofs.OneFolderList.{own_side}
use Rattle.go_reading.specs.FolderReadings.{IsReading}
use Rattle.go_reading.specs.TreeFolders.{ReadsFolder}
use Rattle.go_reading.specs.TreeUnits.{AreUnitsOfTrees}
use Rattle.go_sources.specs.UnitSources.{file_of, import_of, source_of}
use Rattle.go_taken_packages.specs.go_exposed.OfferedWorlds.{IsWorldOf}
use Rattle.go_typings.specs.Sources.{Import, PackageSource, imports_in}
use Rattle.go_units.proofs.FolderLookups.{at_once}
use Rattle.go_units.proofs.Giving.{given_by}
use Rattle.go_units.proofs.WalkedFiles.{slot_within, walked_rows}
use Rattle.go_units.specs.Folders.{NamesFolder, folder_of, no_folder}
use Rattle.go_units.specs.Reached.{is_std}
use Rattle.go_units.specs.UnitsOfModules.{GivesUnitFile, GivesUse, IsUnitOf, packages_in}
use Rattle.go_units.specs.declared.reader.Reading.{Reading}
use Rattle.go_units.specs.declared.unit.«Unit».{«Unit» as PackageUnit}
use Rattle.go_units.specs.declared.unit.UnitFile.{UnitFile}
use Rattle.go_units.specs.declared.unit.UsedImport.{UsedImport}
use Rattle.go_units.specs.declared.unit_list.Units.{Units}
use Rattle.go_std_worlds.proofs.OwnPaths.{own_paths}
use Rattle.go_std_worlds.proofs.SameFolders.{named_std}
use Rattle.go_std_worlds.proofs.SameStdWorlds.{same_std, written_side}
use Rattle.go_std_worlds.proofs.SameUnits.{Run, source_same}
use Rattle.go_std_worlds.specs.StdSources.{KeepStdApart, HavePaths, HaveSameStd}
use Rattle.go_std_worlds.specs.TwoModules.{AreOfTwoModules, sources_of}

-- an import of a unit as it is written is one of a file of it
import_from : (fs : List UnitFile) (file : ℕ) (i : Import) → Has (imports_in (slice_get (map file_of fs) file)) i → (g : UnitFile) × Has fs g × (x : UsedImport) × Has g.imports x × (import_of x ≡ i)
import_from [] file i h = absurd h
import_from (g ∷ fs) zero i h = let q = mapped_from import_of g.imports i h in (g, inl refl, q.0, q.1, q.2)
import_from (g ∷ fs) (suc n) i h = let q = import_from fs n i h in (q.0, inr q.1, q.2, q.3, q.4)

-- ---- the units of one module

module _ (p : Platform) (barred : List (List ℕ)) (std_tree tree : Tree) (units : Units) (k : AreUnitsOfTrees p barred tree std_tree (Ok units)) where
  abbrev pub run : Run p barred std_tree tree
  run = record { folders = k.0; are = k.1; slots = k.2.0; all = k.2.1 }

  abbrev pub unit_of : (u : PackageUnit) → Has units.packages u → (n : ℕ) × IsUnitOf tree.module run.folders run.slots n u
  unit_of u h = k.2.2.sound u h

  unit_within : (u : PackageUnit) (n : ℕ) → IsUnitOf tree.module run.folders run.slots n u → n < length run.folders
  unit_within u n a =
      let l = slot_within run.slots n a.members a.held in
      let rows = walked_rows tree.module run.folders (ReadsFolder p barred tree std_tree run.folders) run.all.walked in
      omega (arith, l, rows)

  -- a unit of the standard library has no barred path
  pub std_apart : (u : PackageUnit) (root : List ℕ) → Has units.packages u → u.from_std ≡ true → Has barred root → IsUnder u.path root → ⊥
  std_apart u root h std bars under =
      let a = unit_of u h in
      let f = folder_of run.folders a.0 in
      let t = run.are.sound f (has_at run.folders a.0 no_folder (unit_within u a.0 a.1)) in
      (t.counts (sym a.1.side ∙ std)).kept (inr (root, bars, subst (λ (w : List ℕ). IsUnder w root) a.1.path under))

  -- a unit of the module stands at or under its path
  pub own_under : (u : PackageUnit) → Has units.packages u → u.from_std ≡ false → IsUnder u.path tree.module
  own_under u h own =
      let a = unit_of u h in
      let f = folder_of run.folders a.0 in
      let t = run.are.sound f (has_at run.folders a.0 no_folder (unit_within u a.0 a.1)) in
      subst (λ (w : List ℕ). IsUnder w tree.module) (sym a.1.path) (own_side p barred tree std_tree f t (sym a.1.side ∙ own))

  std_import : (u v : PackageUnit) (file : ℕ) (i : Import) → Has units.packages u → Has units.packages v → u.from_std ≡ true → Has (imports_in (slice_get (map file_of u.files) file)) i → i.is_found ≡ true → v.path ≡ i.path → v.from_std ≡ true
  std_import u v file i h l std has found path =
      let a = unit_of u h in
      let b = unit_of v l in
      let side : is_std run.folders a.0 ≡ true = sym a.1.side ∙ std in
      let q = import_from u.files file i has in
      let f = given_by (GivesUnitFile tree.module run.folders (packages_in run.slots) (is_std run.folders a.0)) a.1.given q.0 q.1 in
      let x = given_by (GivesUse tree.module run.folders (packages_in run.slots) (is_std run.folders a.0)) f.2.given q.2 q.3 in
      let there = x.2.is_found.0 (ap (λ (z : Import). z.is_found) q.4 ∙ found) in
      let m = there.0 in
      let named = subst (λ (s : Bool). NamesFolder tree.module run.folders s x.0.path m) side there.1.names in
      let same : b.0 ≡ m = at_once run.folders x.0.path m b.0 run.are.ordered (named.within, named.same) (unit_within v b.0 b.1, sym b.1.path ∙ path ∙ sym (ap (λ (z : Import). z.path) q.4) ∙ x.2.path) in
      b.1.side ∙ ap (is_std run.folders) same ∙ named_std tree.module run.folders x.0.path m named

  pub apart : KeepStdApart (sources_of units)
  apart = record {
    own_paths = own_paths units;
    std_imports = λ u v file i h l std has found path. (
        let a = mapped_from source_of units.packages u h in
        let b = mapped_from source_of units.packages v l in
        sym (ap (λ (z : PackageSource). z.from_std) b.2)
        ∙ std_import a.0 b.0 file i a.1 b.1 (ap (λ (z : PackageSource). z.from_std) a.2 ∙ std)
        (subst (λ (z : PackageSource). Has (imports_in (slice_get z.files file)) i) (sym a.2) has) found (ap (λ (z : PackageSource). z.path) b.2 ∙ path)
        );
  }

-- the paths of units as they are written
pub have_paths : (units : Units) → ((u : PackageUnit) → Has units.packages u → u.path ≢ []) → HavePaths (sources_of units)
have_paths units f u h e = let q = mapped_from source_of units.packages u h in f q.0 q.1 (ap (λ (z : PackageSource). z.path) q.2 ∙ e)

-- ---- the units of both

module _ (p : Platform) (barred : List (List ℕ)) (std_tree ta tb : Tree) (old new : Units) (k : AreOfTwoModules p barred std_tree ta tb old new) where
  side_by : (u v : PackageUnit) (a b : Bool) → Has old.packages u → Has new.packages v → u.path ≡ v.path → u.from_std ≡ a → v.from_std ≡ b → a ≡ b
  side_by u v true true h l path e f = refl
  side_by u v false false h l path e f = refl
  side_by u v true false h l path e f = absurd (std_apart p barred std_tree ta old k.old_units u tb.module h e k.new_barred (subst (λ (w : List ℕ). IsUnder w tb.module) (sym path) (own_under p barred std_tree tb new k.new_units v l f)))
  side_by u v false true h l path e f = absurd (std_apart p barred std_tree tb new k.new_units v ta.module l f k.old_barred (subst (λ (w : List ℕ). IsUnder w ta.module) path (own_under p barred std_tree ta old k.old_units u h e)))

  -- units with one path are both of the standard library, or neither
  pub one_side : (u v : PackageUnit) → Has old.packages u → Has new.packages v → u.path ≡ v.path → u.from_std ≡ v.from_std
  one_side u v h l path = side_by u v u.from_std v.from_std h l path refl refl

  pub sides_same : (x : HavePaths (sources_of old)) (y : HavePaths (sources_of new)) (bits : ℕ) (w v : Packages) → IsWorldOf bits (sources_of old) w → IsWorldOf bits (sources_of new) v → (path : List ℕ) (a b : Package) → first_with path_of w.packages path ≡ Some a → first_with path_of v.packages path ≡ Some b → a.from_std ≡ b.from_std
  sides_same o n bits w v x y path a b e f =
      let q = written_side bits (sources_of old) w (apart p barred std_tree ta old k.old_units) o x path a e in
      let r = written_side bits (sources_of new) v (apart p barred std_tree tb new k.new_units) n y path b f in
      let s = mapped_from source_of old.packages q.0 q.1 in
      let t = mapped_from source_of new.packages r.0 r.1 in
      let paths : s.0.path ≡ t.0.path = ap (λ (z : PackageSource). z.path) s.2 ∙ q.2 ∙ sym (ap (λ (z : PackageSource). z.path) t.2 ∙ r.2) in
      q.3 ∙ sym (ap (λ (z : PackageSource). z.from_std) s.2) ∙ one_side s.0 t.0 s.1 t.1 paths ∙ ap (λ (z : PackageSource). z.from_std) t.2 ∙ sym r.3

  module _ (one : (files : List TreeFile) (a b : Reading) → IsReading p files a → IsReading p files b → a ≡ b) where
    pub one_source : (u v : PackageUnit) → Has old.packages u → Has new.packages v → u.path ≡ v.path → u.from_std ≡ true → source_of u ≡ source_of v
    one_source u v h l path std =
        let a = unit_of p barred std_tree ta old k.old_units u h in
        let b = unit_of p barred std_tree tb new k.new_units v l in
        source_same p barred std_tree one ta tb (run p barred std_tree ta old k.old_units) (run p barred std_tree tb new k.new_units) u v a.0 b.0 a.1 b.1 path std (sym (one_side u v h l path) ∙ std)

    have_same : HaveSameStd (sources_of old) (sources_of new)
    have_same u v h l path std =
        let a = mapped_from source_of old.packages u h in
        let b = mapped_from source_of new.packages v l in
        let paths : a.0.path ≡ b.0.path = ap (λ (z : PackageSource). z.path) a.2 ∙ path ∙ sym (ap (λ (z : PackageSource). z.path) b.2) in
        sym a.2 ∙ one_source a.0 b.0 a.1 b.1 paths (ap (λ (z : PackageSource). z.from_std) a.2 ∙ std) ∙ b.2

    pub packages_same : HavePaths (sources_of old) → HavePaths (sources_of new) → (bits : ℕ) (w v : Packages) → IsWorldOf bits (sources_of old) w → IsWorldOf bits (sources_of new) v → (path : List ℕ) (a b : Package) → first_with path_of w.packages path ≡ Some a → first_with path_of v.packages path ≡ Some b → a.from_std ≡ true → a ≡ b
    packages_same o n bits w v = same_std bits (sources_of old) (sources_of new) w v (apart p barred std_tree ta old k.old_units) (apart p barred std_tree tb new k.new_units) o n have_same
