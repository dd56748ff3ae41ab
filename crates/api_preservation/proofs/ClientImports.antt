-- What a client of an old module imports names a package of a new one that is compatible with it, with the same name.
use Rattle.std.proofs.Common.{◌≡◌, ◌≢◌, ◌⊎◌, ℕ, Bool, true, false, not, ◌&&◌, Some, List, [], length, refl, sym, ap, ◌∙◌, subst, inl, inr, arith}
use mathlib.Core.Bool.{true≢false}
use Rattle.std.specs.Prelude.{codes}
use Rattle.std.specs.List.{list_all, slice_split}
use Rattle.std.specs.Str.{bytes_eq}
use Rattle.std.proofs.lemmas.Slice.Eq.{bytes_eq-Decides}
use Rattle.go_base.specs.Keys.{first_with}
use Rattle.go_base.specs.Lists.{Has}
use Rattle.go_exposed.specs.OfferedWorlds.{IsWorldOf}
use Rattle.go_imports.proofs.Members.{has_at}
use Rattle.go_imports.specs.ImportPaths.{IsUnder}
use Rattle.go_imports.specs.declared.used_imports.NamedImport.{NamedImport}
use Rattle.go_model.specs.declared.files.platform.Platform.{Platform}
use Rattle.go_model.specs.declared.files.tree.Tree.{Tree}
use Rattle.go_model.specs.declared.files.tree.TreeFile.{TreeFile}
use Rattle.go_model.specs.files.Trees.{IsTree, are_elements}
use Rattle.go_model.specs.types.Terms.{client_path}
use Rattle.go_model.specs.worlds.Worlds.{Packages, path_of}
use Rattle.go_reading.proofs.ListFacts.{has_mapped, mapped_from}
use Rattle.go_reading.proofs.OneFolderList.{std_side}
use Rattle.go_reading.proofs.UnitPaths.{tree_elements}
use Rattle.go_reading.specs.FolderReadings.{IsReading}
use Rattle.go_sources.specs.UnitSources.{source_of}
use Rattle.go_std_worlds.proofs.SameFolders.{folder_there}
use Rattle.go_std_worlds.specs.StdSources.{HaveOwnPaths, HavePaths}
use Rattle.go_std_worlds.specs.TwoModules.{sources_of}
use Rattle.go_typings.proofs.Cells.{either}
use Rattle.go_typings.specs.PackageWorlds.{is_public, is_public_element, is_slash}
use Rattle.go_typings.specs.Sources.{PackageSource}
use Rattle.go_units.proofs.Giving.{gives_as_many}
use Rattle.go_units.proofs.WalkedFiles.{holds_some}
use Rattle.go_units.specs.Folders.{IsFound, IsSought, MayBeFound, NamesFolder, folder_of, no_folder}
use Rattle.go_units.specs.PackageUses.{AreFree}
use Rattle.go_units.specs.Reached.{is_std}
use Rattle.go_units.specs.UnitsOfModules.{GivesUnitFile, HoldsPackage, packages_in}
use Rattle.go_units.specs.declared.folder.Folder.{Folder}
use Rattle.go_units.specs.declared.package_uses.PackageFile.{PackageFile}
use Rattle.go_units.specs.declared.reader.Reading.{Reading}
use Rattle.go_units.specs.declared.unit.«Unit».{«Unit» as PackageUnit}
use Rattle.api_correspond.specs.Publics.{IsPublic}
use Rattle.api_correspond.specs.Rules.{Compatible}
use Rattle.api_preservation.proofs.FolderNames.{TellOutlines, folder_named}
use Rattle.api_preservation.proofs.PublicPackages.{package_name, package_there, public_from, public_there}
use Rattle.api_preservation.proofs.PublicPaths.{used_public}
use Rattle.api_preservation.proofs.ReachedFolders.{sought_in_std}
use Rattle.api_preservation.proofs.Runs.{filled, held_there, holds_alike}
use Rattle.api_preservation.proofs.SameStd.{path_same, side_same}
use Rattle.api_preservation.proofs.SameTree.{same_files}
use Rattle.api_preservation.proofs.UnitRuns.{IsAt, UnitRun, apart, own_under, unit_within}

sought_in_module : (module_path path : List ℕ) (s : Bool) → s ≡ false → IsUnder path module_path → IsSought module_path false path s
sought_in_module module_path path false e h = h
sought_in_module module_path path true e h = absurd (true≢false e)

public_by : (a b c : Bool) → a ≡ false → b ≡ false → c ≡ true → (not a && (not b && c)) ≡ true
public_by false false true e f g = refl
public_by true b c e f g = absurd (true≢false e)
public_by false true c e f g = absurd (true≢false f)
public_by false false false e f g = absurd (true≢false (sym g))

own_by : (a b : Bool) → (not a && b) ≡ true → a ≡ false
own_by false b e = refl
own_by true b e = absurd (true≢false (sym e))

module _ (p : Platform) (bits : ℕ) (barred : List (List ℕ)) (std_tree : Tree) (one : (files : List TreeFile) (a b : Reading) → IsReading p files a → IsReading p files b → a ≡ b)
    (old new : Tree) (fo fn : List Folder) (oa oc : UnitRun p barred old std_tree fo) (na : UnitRun p barred new std_tree fn) where
  abbrev pub IsSeen : List ℕ → ℕ → Type 0
  IsSeen path m = IsFound old.module fo (packages_in oc.run.slots) false path m

  -- the folder of the new module, or of the standard library, that has the package
  pub record Lands (path : List ℕ) (m : ℕ) : Type 0 where
    pub number : ℕ
    pub names : NamesFolder new.module fn false path number
    pub same_name : (folder_of fn number).package_name ≡ (folder_of fo m).package_name
    pub held : ((is_std fo m ≡ true) × (folder_of fn number ≡ folder_of fo m)) ⊎ ((is_std fn number ≡ false) × HoldsPackage na.run.slots number)

  pub lands_permitted : (path : List ℕ) (m : ℕ) (l : Lands path m) → IsSeen path m → MayBeFound (folder_of fn l.number)
  lands_permitted path m l k = record {
    safe = λ e. k.permitted.safe (k.names.same ∙ sym l.names.same ∙ e);
    library = λ e. k.permitted.library (sym l.same_name ∙ e);
  }

  module _ (new_barred : Has barred new.module) where
    of_std : (path : List ℕ) (m : ℕ) → IsSeen path m → is_std fo m ≡ true → Lands path m
    of_std path m k std =
        let q = folder_there p barred std_tree old new fo fn oc.run.are na.run.are m k.names.within std in
        let i = q.number in
        let side : is_std fn i ≡ true = side_same (folder_of fn i) (folder_of fo m) q.same ∙ std in
        let at : (folder_of fn i).path ≡ path = path_same (folder_of fn i) (folder_of fo m) q.same ∙ k.names.same in
        let apart_of = std_side p barred new std_tree new_barred (folder_of fn i) (na.run.are.sound (folder_of fn i) (has_at fn i no_folder q.within)) side in
        record {
          number = i;
          names = record { within = q.within; same = at; sought = sought_in_std new.module path (is_std fn i) side (λ under. apart_of (subst (λ (w : List ℕ). IsUnder w new.module) (sym at) under)) };
          same_name = ap (λ (z : Folder). z.package_name) q.same;
          held = inl (std, q.same);
        }

    module _ (outlines : TellOutlines p) (paths : HavePaths (sources_of oa.units)) (others : HavePaths (sources_of na.units)) (wo wn : Packages) (ko : IsWorldOf bits (sources_of oa.units) wo) (kn : IsWorldOf bits (sources_of na.units) wn) (compatible : Compatible wo wn) where
      own_paths_old : HaveOwnPaths (sources_of oa.units)
      own_paths_old = (apart p barred old std_tree fo oa).own_paths

      own_paths_new : HaveOwnPaths (sources_of na.units)
      own_paths_new = (apart p barred new std_tree fn na).own_paths

      -- the unit of the module that is there
      unit_there : (path : List ℕ) (m : ℕ) → IsSeen path m → is_std fo m ≡ false → (u : PackageUnit) × Has oa.units.packages u × IsAt p barred old std_tree fo oa m u
      unit_there path m k own =
          let here = filled oa.run.slots m (oa.run.own m k.names.within own) in
          let there = held_there oc.run.slots m k.holds in
          let same : here.0 ≡ there.0 = same_files p barred old std_tree fo one oa.run oc.run m here.0 there.0 here.1 there.1 in
          oa.all.complete m (holds_alike oa.run.slots oc.run.slots m m here.0 there.0 here.1 there.1 same k.holds)

      main_by : (name : List ℕ) (b : Bool) → bytes_eq name (codes "main") ≡ b → (name ≡ codes "main" → ⊥) → b ≡ false
      main_by name false e never = refl
      main_by name true e never = absurd (never ((bytes_eq-Decides name (codes "main")).0 e))

      module _ (path : List ℕ) (m : ℕ) (k : IsSeen path m) (own : is_std fo m ≡ false) (free : are_elements path ≡ true → list_all is_public_element (slice_split is_slash path) ≡ true) (elements : are_elements path ≡ true) where
        abbrev there : (u : PackageUnit) × Has oa.units.packages u × IsAt p barred old std_tree fo oa m u
        there = unit_there path m k own

        path_there : there.0.path ≡ path
        path_there = there.2.path ∙ k.names.same

        named_there : (folder_of fo m).package_name ≡ Some there.0.name
        named_there = folder_named p barred old std_tree fo outlines oa there.0 m there.2

        is_public_there : is_public (source_of there.0) ≡ true
        is_public_there = public_by there.0.from_std (bytes_eq there.0.name (codes "main")) (list_all is_public_element (slice_split is_slash there.0.path))
            (there.2.side ∙ own)
            (main_by there.0.name (bytes_eq there.0.name (codes "main")) refl (λ e. k.permitted.library (named_there ∙ ap (λ (w : List ℕ). Some w) e)))
            (ap (λ (w : List ℕ). list_all is_public_element (slice_split is_slash w)) path_there ∙ free elements)

        pub shown : IsPublic wo path
        shown = subst (λ (w : List ℕ). Has wo.publics w) path_there (public_there bits (sources_of oa.units) wo ko (source_of there.0) (has_mapped source_of oa.units.packages there.0 there.1) is_public_there)

        still : IsPublic wn path
        still = (compatible.paths path).package_kept shown

        of_module : Lands path m
        of_module =
            let from = public_from bits (sources_of na.units) wn kn path still in
            let un = mapped_from source_of na.units.packages from.0 from.1 in
            let at = na.all.sound un.0 un.1 in
            let i = at.0 in
            let new_path : un.0.path ≡ path = ap (λ (z : PackageSource). z.path) un.2 ∙ from.2 in
            let side : un.0.from_std ≡ false = ap (λ (z : PackageSource). z.from_std) un.2 ∙ own_by from.0.from_std (not (bytes_eq from.0.name (codes "main")) && list_all is_public_element (slice_split is_slash from.0.path)) from.3 in
            let po = package_there bits (sources_of oa.units) own_paths_old paths wo ko (source_of there.0) (has_mapped source_of oa.units.packages there.0 there.1) in
            let pn = package_there bits (sources_of na.units) own_paths_new others wn kn from.0 from.1 in
            let old_name : po.0.name ≡ there.0.name = package_name bits (sources_of oa.units) own_paths_old paths wo ko (source_of there.0) (has_mapped source_of oa.units.packages there.0 there.1) po.0 po.1 in
            let new_name : pn.0.name ≡ un.0.name = package_name bits (sources_of na.units) own_paths_new others wn kn from.0 from.1 pn.0 pn.1 ∙ sym (ap (λ (z : PackageSource). z.name) un.2) in
            let kept : pn.0.name ≡ po.0.name = (compatible.paths path).name_kept po.0 pn.0 (record {
              shown = shown;
              still = still;
              before = subst (λ (w : List ℕ). first_with path_of wo.packages w ≡ Some po.0) path_there po.1;
              after = subst (λ (w : List ℕ). first_with path_of wn.packages w ≡ Some pn.0) from.2 pn.1;
            }) in
            let same : un.0.name ≡ there.0.name = sym new_name ∙ kept ∙ old_name in
            let many : length un.0.files ≡ length at.1.members = gives_as_many (GivesUnitFile new.module fn (packages_in na.run.slots) (is_std fn i)) (λ f h. h) at.1.given in
            let some = at.1.some in
            record {
              number = i;
              names = record {
                within = unit_within p barred new std_tree fn na un.0 i at.1;
                same = sym at.1.path ∙ new_path;
                sought = sought_in_module new.module path (is_std fn i) (sym at.1.side ∙ side) (subst (λ (w : List ℕ). IsUnder w new.module) new_path (own_under p barred new std_tree fn na un.0 un.1 side));
              };
              same_name = folder_named p barred new std_tree fn outlines na un.0 i at.1 ∙ ap (λ (w : List ℕ). Some w) same ∙ sym named_there;
              held = inr (sym at.1.side ∙ side, holds_some na.run.slots i at.1.members at.1.held (omega (arith, many, some)));
            }

      -- the path of a folder is made of elements
      module _ (old_is : IsTree old) (std_is : IsTree std_tree) (some_module : old.module ≢ []) where
        pub elements_of : (path : List ℕ) (m : ℕ) → IsSeen path m → are_elements path ≡ true
        elements_of path m k = subst (λ (w : List ℕ). are_elements w ≡ true) k.names.same
            (tree_elements p barred old std_tree old_is std_is some_module (folder_of fo m) (oc.run.are.sound (folder_of fo m) (has_at fo m no_folder k.names.within)))

        pub lands : (files : List PackageFile) → AreFree client_path false files → (f : PackageFile) (u : NamedImport) → Has files f → Has f.uses u → (m : ℕ) → IsSeen u.path m → Lands u.path m
        lands files free f u h i m k = elim (either (is_std fo m)) [
          | inl std ↦ of_std u.path m k std
          | inr own ↦ of_module u.path m k own (used_public f.uses (free f h) u i) (elements_of u.path m k)
        ]
