-- The units of a new module with a client have a world.
use Rattle.std.proofs.Common.{◌≡◌, ℕ, true, Some, List, [], ◌∷◌, ◌++◌, map, length, append_assoc, append-nil, refl, sym, ap, ◌∙◌, subst, inl, inr, arith}
use Rattle.go_base.specs.Lists.{Has, Once}
use Rattle.go_exposed.specs.OfferedPackages.{IsOfferedAs}
use Rattle.go_exposed.specs.OfferedWorlds.{IsWorldOf, become_none}
use Rattle.go_existence.proofs.FiniteSets.{has_left}
use Rattle.go_model.specs.declared.files.platform.Platform.{Platform}
use Rattle.go_model.specs.declared.files.tree.Tree.{Tree}
use Rattle.go_model.specs.declared.files.tree.TreeFile.{TreeFile}
use Rattle.go_model.specs.declared.types.package.Package.{Package}
use Rattle.go_model.specs.worlds.Worlds.{Packages, with_package}
use Rattle.go_reading.proofs.ListFacts.{has_mapped, map_more, mapped_from}
use Rattle.go_reading.specs.FolderReadings.{IsReading}
use Rattle.go_sources.specs.UnitSources.{source_of}
use Rattle.go_std_worlds.specs.StdSources.{HaveOwnPaths, HavePaths, HaveSameStd, KeepStdApart, source_path}
use Rattle.go_std_worlds.specs.TwoModules.{sources_of}
use Rattle.go_typings.specs.PackageWorlds.{AreTyped, is_public, no_packages, over}
use Rattle.go_typings.specs.Sources.{PackageSource}
use Rattle.api_kept_clients.specs.go_unit_worlds.SharedSources.{HaveSame}
use Rattle.go_units.proofs.Giving.{gives_as_many}
use Rattle.go_units.proofs.WalkedFiles.{holds_some}
use Rattle.go_units.specs.Folders.{folder_of}
use Rattle.go_units.specs.Reached.{is_std, slot}
use Rattle.go_units.specs.UnitsOfModules.{GivesUnitFile, packages_in}
use Rattle.go_units.specs.declared.folder.Folder.{Folder}
use Rattle.go_units.specs.declared.package_uses.PackageFile.{PackageFile}
use Rattle.go_units.specs.declared.reader.Reading.{Reading}
use Rattle.go_units.specs.declared.unit.«Unit».{«Unit» as PackageUnit}
use Rattle.api_worlds.proofs.go_work_proofs.TypedUnits.{typed_more}
use Rattle.api_worlds.proofs.go_work_proofs.UnitPrefixes.{imports_typed}
use Rattle.api_preservation.proofs.OfferedAgain.{offered_again, std_again}
use Rattle.api_preservation.proofs.ReachedFolders.{Known, client_files, std_old}
use Rattle.api_preservation.proofs.SameStd.{path_same, share_units, source_same}
use Rattle.api_preservation.proofs.SameTree.{have_same, same_files, unit_holds, unit_once}
use Rattle.api_preservation.proofs.UnitRuns.{UnitRun, apart}

-- the packages of units, as they are written
abbrev pub written : List PackageUnit → List PackageSource
written us = map source_of us

once_front : (xs ys : List (List ℕ)) → Once (xs ++ ys) → Once xs
once_front [] ys o = tt
once_front (x ∷ xs) ys o = ((λ h. o.0 (has_left xs ys x h)), once_front xs ys o.1)

module _ (p : Platform) (bits : ℕ) (barred : List (List ℕ)) (std_tree : Tree) (one : (files : List TreeFile) (a b : Reading) → IsReading p files a → IsReading p files b → a ≡ b)
    (old new : Tree) (fo fn : List Folder) (oc : UnitRun p barred old std_tree fo) (na sc : UnitRun p barred new std_tree fn)
    (known : (n : ℕ) (files : List PackageFile) → slot sc.run.slots n ≡ Some files → Known p barred std_tree one old new fo fn oc.run na.run n)
    (old_barred : Has barred old.module) (new_barred : Has barred new.module)
    (na_paths : HavePaths (sources_of na.units)) (oc_paths : HavePaths (sources_of oc.units)) (sc_paths : HavePaths (sources_of sc.units))
    (wn before : Packages) (kn : IsWorldOf bits (sources_of na.units) wn) (kb : IsWorldOf bits (sources_of oc.units) before) where
  -- ---- units that stand before others

  module _ (front rest : List PackageUnit) (parts : sc.units.packages ≡ front ++ rest) where
    front_among : (s : PackageSource) → Has (written front) s → Has (sources_of sc.units) s
    front_among s h =
        let x = mapped_from source_of front s h in
        subst (Has (sources_of sc.units)) x.2 (has_mapped source_of sc.units.packages x.0 (subst (λ (us : List PackageUnit). Has us x.0) (sym parts) (has_left front rest x.0 x.1)))

    front_paths : HavePaths (written front)
    front_paths s h = sc_paths s (front_among s h)

    front_own : HaveOwnPaths (written front)
    front_own =
        let all : Once (map source_path (sources_of sc.units)) = (apart p barred new std_tree fn sc).own_paths in
        let parted : map source_path (sources_of sc.units) ≡ map source_path (written front) ++ map source_path (written rest) =
        ap (λ (us : List PackageUnit). map source_path (map source_of us)) parts ∙ ap (map source_path) (map_more source_of front rest) ∙ map_more source_path (written front) (written rest) in
        once_front (map source_path (written front)) (map source_path (written rest)) (subst Once parted all)

    front_apart : KeepStdApart (written front)
    front_apart = record {
      own_paths = front_own;
      std_imports = λ u v file i h l std has found path. (apart p barred new std_tree fn sc).std_imports u v file i (front_among u h) (front_among v l) std has found path;
    }

    front_same : HaveSame (sources_of na.units) (written front)
    front_same u v h l path = have_same p barred new std_tree fn one na sc u v h (front_among v l) path

    front_std : HaveSameStd (sources_of oc.units) (written front)
    front_std u v h l path from_std = (share_units p barred std_tree one old new fo fn oc sc old_barred new_barred).same u v h (front_among v l) path from_std

    module _ (w : Packages) (k : IsWorldOf bits (written front) w) where
      -- a unit is typed over those before it, as it is in one of the worlds
      offered : (u : PackageUnit) → Has sc.units.packages u → AreTyped w (source_of u) → (q : Package) × IsOfferedAs (over bits w) (source_of u) q
      offered u h t = by (known (sc.all.sound u h).0 (sc.all.sound u h).1.members (sc.all.sound u h).1.held)
        where
          by : Known p barred std_tree one old new fo fn oc.run na.run (sc.all.sound u h).0 → (q : Package) × IsOfferedAs (over bits w) (source_of u) q
          by (inl f) =
              let m = (sc.all.sound u h).0 in
              let here = (sc.all.sound u h).1 in
              let same : f.0 ≡ here.members = same_files p barred new std_tree fn one na.run sc.run m f.0 here.members f.1 here.held in
              let v = na.all.complete m (unit_holds p barred new std_tree fn one sc na u m here (f.1 ∙ ap Some same)) in
              let there : Has (sources_of na.units) (source_of u) = subst (Has (sources_of na.units)) (unit_once p barred new std_tree fn one na.run sc.run v.0 u m v.2 here) (has_mapped source_of na.units.packages v.0 v.1) in
              offered_again bits (sources_of na.units) (written front) ((apart p barred new std_tree fn na).own_paths) front_own na_paths front_paths front_same wn w kn k (source_of u) there t
          by (inr f) =
              let m = (sc.all.sound u h).0 in
              let here = (sc.all.sound u h).1 in
              let same : f.files ≡ here.members = client_files p barred std_tree one old new fo fn oc.run na.run m f here.members (sc.run.read m here.members here.held) in
              let many : length u.files ≡ length here.members = gives_as_many (GivesUnitFile new.module fn (packages_in sc.run.slots) (is_std fn m)) (λ g z. z) here.given in
              let some = here.some in
              let v = oc.all.complete f.number (holds_some oc.run.slots f.number f.files f.held (let l = ap length same in omega (arith, many, some, l))) in
              let path : v.0.path ≡ u.path = v.2.path ∙ sym (path_same (folder_of fn m) (folder_of fo f.number) f.same) ∙ sym here.path in
              let old_std : v.0.from_std ≡ true = v.2.side ∙ std_old p barred std_tree one old new fo fn oc.run na.run m f in
              let new_std : u.from_std ≡ true = here.side ∙ f.std in
              let is : source_of v.0 ≡ source_of u = source_same p barred std_tree one old new fo fn oc sc v.0 u f.number m v.2 here path old_std new_std in
              let there : Has (sources_of oc.units) (source_of u) = subst (Has (sources_of oc.units)) is (has_mapped source_of oc.units.packages v.0 v.1) in
              std_again bits (sources_of oc.units) (written front) (sources_of sc.units) (apart p barred old std_tree fo oc) front_apart (apart p barred new std_tree fn sc) oc_paths front_paths front_among front_std before w kb k (source_of u) there
              (has_mapped source_of sc.units.packages u h) new_std t

  middle : (front rest : List PackageUnit) (u : PackageUnit) → Has (front ++ u ∷ rest) u
  middle [] rest u = inl refl
  middle (x ∷ front) rest u = inr (middle front rest u)

  from : (front rest : List PackageUnit) (w : Packages) → sc.units.packages ≡ front ++ rest → IsWorldOf bits (written front) w → (v : Packages) × IsWorldOf bits (sources_of sc.units) v
  from front [] w e k = (w, subst (λ (us : List PackageUnit). IsWorldOf bits (written us) w) (sym (e ∙ append-nil front)) k)
  from front (u ∷ rest) w e k =
      let t = imports_typed bits sc.units.packages sc.units.ordered front rest u e w k u.needed in
      let q = offered front (u ∷ rest) e w k u (subst (λ (us : List PackageUnit). Has us u) (sym e) (middle front rest u)) t in
      let v = with_package w q.0 (is_public (source_of u)) in
      from (front ++ u ∷ []) rest v (e ∙ sym (append_assoc front (u ∷ []) rest))
      (subst (λ (xs : List PackageSource). IsWorldOf bits xs v) (sym (map_more source_of front (u ∷ []))) (typed_more bits (written front) w (source_of u) q.0 k (t, q.1)))

  pub new_world : (v : Packages) × IsWorldOf bits (sources_of sc.units) v
  new_world = from [] sc.units.packages no_packages refl (record { outcomes = []; become = become_none; all_typed = tt })
