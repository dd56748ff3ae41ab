-- What two modules over one tree of the standard library read of it is the same, each with a client or without one.
use Rattle.std.proofs.Common.{◌≡◌, ℕ, Bool, true, false, Some, List, map, refl, sym, ap, ◌∙◌, subst}
use Rattle.go_base.specs.Lists.{Has}
use Rattle.go_imports.specs.ImportPaths.{IsUnder}
use Rattle.go_imports.specs.declared.package_files.SourceFile.{SourceFile}
use Rattle.go_imports.specs.declared.used_imports.NamedImport.{NamedImport}
use Rattle.go_imports.specs.Gives.{Gives}
use Rattle.go_model.specs.declared.files.platform.Platform.{Platform}
use Rattle.go_model.specs.declared.files.tree.Tree.{Tree}
use Rattle.go_model.specs.declared.files.tree.TreeFile.{TreeFile}
use Rattle.go_reading.proofs.ListFacts.{mapped_from}
use Rattle.go_reading.specs.FolderReadings.{IsReading}
use Rattle.go_reading.specs.TreeFolders.{AreTreeFolders, files_at}
use Rattle.go_sources.specs.UnitSources.{file_of, source_of}
use Rattle.go_std_worlds.proofs.SameFiles.{files_same}
use Rattle.go_std_worlds.proofs.SameFolders.{folder_there, named_same, named_std, names_there, std_files}
use Rattle.go_std_worlds.specs.TwoModules.{sources_of}
use Rattle.go_typings.specs.Sources.{PackageSource}
use Rattle.go_unit_laws.proofs.OneWalk.{same_sources}
use Rattle.go_units.proofs.FolderLookups.{at_once}
use Rattle.go_units.specs.Folders.{AsksFor, IsFound, MayBeFound, folder_of}
use Rattle.go_units.specs.PackageUses.{ArePackageFiles}
use Rattle.go_units.specs.Reached.{is_std, slot}
use Rattle.go_units.specs.UnitsOfModules.{GivesUnitFile, IsUnitOf, packages_in}
use Rattle.go_units.specs.declared.folder.Folder.{Folder}
use Rattle.go_units.specs.declared.package_uses.PackageFile.{PackageFile}
use Rattle.go_units.specs.declared.reader.Reading.{Reading}
use Rattle.go_units.specs.declared.reader.Reading.TheVariants as reading
use Rattle.go_units.specs.declared.unit.«Unit».{«Unit» as PackageUnit}
use Rattle.api_kept_clients.specs.ServedUnits.{ShareStdUnits}
use Rattle.api_preservation.proofs.FoundAlike.{AllAlike, files_alike}
use Rattle.api_preservation.proofs.Runs.{IsRead, Run, filled, held_there, holds_alike}
use Rattle.api_preservation.proofs.SameTree.{named_by}
use Rattle.api_preservation.proofs.UnitRuns.{UnitRun, own_under, std_apart, unit_within}

pub path_same : (x y : Folder) → x ≡ y → x.path ≡ y.path
path_same x y e = ap (λ (z : Folder). z.path) e

pub side_same : (x y : Folder) → x ≡ y → x.from_std ≡ y.from_std
side_same x y e = ap (λ (z : Folder). z.from_std) e

-- what holds of a folder whether its package may be found holds of an equal one
pub permits : (x y : Folder) → x ≡ y → MayBeFound y → MayBeFound x
permits x y e k = record { safe = λ f. k.safe (sym (path_same x y e) ∙ f); library = λ f. k.library (sym (ap (λ (z : Folder). z.package_name) e) ∙ f) }

module _ (p : Platform) (barred : List (List ℕ)) (std_tree : Tree) (one : (files : List TreeFile) (a b : Reading) → IsReading p files a → IsReading p files b → a ≡ b) where
  module _ (ta tb : Tree) (fa fb : List Folder) (a : AreTreeFolders p barred ta std_tree fa) (b : AreTreeFolders p barred tb std_tree fb) where
    -- a folder of the standard library gives the same files to its package beside both modules
    pub std_once : (n m : ℕ) (files others : List PackageFile) → folder_of fb m ≡ folder_of fa n → is_std fa n ≡ true → IsRead p barred ta std_tree fa n files → IsRead p barred tb std_tree fb m others → files ≡ others
    std_once n m files others same std k l =
        let std_too : is_std fb m ≡ true = side_same (folder_of fb m) (folder_of fa n) same ∙ std in
        let texts : files_at p barred tb std_tree (folder_of fb m).from_std (folder_of fb m).path ≡ files_at p barred ta std_tree (folder_of fa n).from_std (folder_of fa n).path =
        ap (λ (x : Folder). files_at p barred tb std_tree x.from_std x.path) same ∙ std_files p barred std_tree tb ta (folder_of fa n).from_std (folder_of fa n).path std in
        let sources : k.0 ≡ l.0 = same_sources k.0 l.0 (one _ (reading.Files k.0) (reading.Files l.0) k.1 (subst (λ (fs : List TreeFile). IsReading p fs (reading.Files l.0)) texts l.1)) in
        let here : ArePackageFiles ta.module fa true l.0 files = subst (λ (q : Bool × List SourceFile). ArePackageFiles ta.module fa q.0 q.1 files) (λ i. (std i, sources i)) k.2.given in
        let there : ArePackageFiles tb.module fb true l.0 others = subst (λ (s : Bool). ArePackageFiles tb.module fb s l.0 others) std_too l.2.given in
        files_same ta.module tb.module fa fb true (named_same p barred std_tree ta tb fa fb a b) l.0 files others here there

    -- what a package of the standard library asks for beside the one it asks for beside the other
    pub asks_there : (path : List ℕ) (j : ℕ) → AsksFor ta.module fa true path j → (i : ℕ) × (folder_of fb i ≡ folder_of fa j) × AsksFor tb.module fb true path i
    asks_there path j k =
        let q = names_there p barred std_tree ta tb fa fb a b path j k.names in
        (q.0.number, q.0.same, record { names = q.1; side = named_std tb.module fb path q.0.number q.1; permitted = permits (folder_of fb q.0.number) (folder_of fa j) q.0.same k.permitted })

  module _ (ta tb : Tree) (fa fb : List Folder) (a : Run p barred ta std_tree fa) (b : Run p barred tb std_tree fb) where
    pub std_files_same : (n m : ℕ) (files others : List PackageFile) → folder_of fb m ≡ folder_of fa n → is_std fa n ≡ true → slot a.slots n ≡ Some files → slot b.slots m ≡ Some others → files ≡ others
    std_files_same n m files others same std e f = std_once ta tb fa fb a.are b.are n m files others same std (a.read n files e) (b.read m others f)

    -- what a package of the standard library finds beside the one module is found beside the other, where it stands there too
    pub found_there : (m : ℕ) (members : List PackageFile) → is_std fb m ≡ true → slot b.slots m ≡ Some members → (f : PackageFile) (x : NamedImport) (j : ℕ) → Has members f → Has f.uses x → IsFound ta.module fa (packages_in a.slots) true x.path j
        → (i : ℕ) × IsFound tb.module fb (packages_in b.slots) true x.path i
    found_there m members std read f x j h u k =
        let q = names_there p barred std_tree ta tb fa fb a.are b.are x.path j k.names in
        let i = q.0.number in
        let same : folder_of fb i ≡ folder_of fa j = q.0.same in
        let permitted : MayBeFound (folder_of fb i) = permits (folder_of fb i) (folder_of fa j) same k.permitted in
        let asks : AsksFor tb.module fb (is_std fb m) x.path i = subst (λ (s : Bool). AsksFor tb.module fb s x.path i) (sym std) (record { names = q.1; side = named_std tb.module fb x.path i q.1; permitted = permitted }) in
        let there = filled b.slots i (b.asked i (m, members, read, (f, h, (x, u, asks)))) in
        let was = held_there a.slots j k.holds in
        let files : was.0 ≡ there.0 = std_files_same j i was.0 there.0 same (named_std ta.module fa x.path j k.names) was.1 there.1 in (
          i,
          record {
            names = q.1;
            permitted = permitted;
            known = λ e. k.known (sym (ap (λ (z : Folder). z.package_name) same) ∙ e);
            holds = holds_alike b.slots a.slots i j there.0 was.0 there.1 was.1 (sym files) k.holds;
          },
        )

  module _ (ta tb : Tree) (fa fb : List Folder) (a : Run p barred ta std_tree fa) (b : Run p barred tb std_tree fb) (n m : ℕ) (same : folder_of fb m ≡ folder_of fa n) (std : is_std fa n ≡ true) where
    std_too : is_std fb m ≡ true
    std_too = side_same (folder_of fb m) (folder_of fa n) same ∙ std

    pub std_alike : (members : List PackageFile) → slot a.slots n ≡ Some members → slot b.slots m ≡ Some members → AllAlike ta.module tb.module fa fb (packages_in a.slots) (packages_in b.slots) true members
    std_alike members here there f u h i = record {
      forth = λ j k. found_there ta tb fa fb a b m members std_too there f u j h i k;
      back = λ j k. found_there tb ta fb fa b a n members std here f u j h i k;
    }

    files_are : (u v : PackageUnit) → IsUnitOf ta.module fa a.slots n u → IsUnitOf tb.module fb b.slots m v → u.files ≡ v.files
    files_are u v k l =
        let pa = packages_in a.slots in
        let pb = packages_in b.slots in
        let members : k.members ≡ l.members = std_files_same ta tb fa fb a b n m k.members l.members same std k.held l.held in
        let here : Gives (GivesUnitFile ta.module fa pa true) l.members u.files = subst (λ (q : Bool × List PackageFile). Gives (GivesUnitFile ta.module fa pa q.0) q.1 u.files) (λ i. (std i, members i)) k.given in
        let there : Gives (GivesUnitFile tb.module fb pb true) l.members v.files = subst (λ (s : Bool). Gives (GivesUnitFile tb.module fb pb s) l.members v.files) std_too l.given in
        files_alike ta.module tb.module fa fb pa pb true l.members u.files v.files (std_alike l.members (k.held ∙ ap Some members) l.held) here there

  module _ (ta tb : Tree) (fa fb : List Folder) (a : UnitRun p barred ta std_tree fa) (b : UnitRun p barred tb std_tree fb) where
    -- units of the standard library with one path are the same
    pub source_same : (u v : PackageUnit) (n m : ℕ) → IsUnitOf ta.module fa a.run.slots n u → IsUnitOf tb.module fb b.run.slots m v → u.path ≡ v.path → u.from_std ≡ true → v.from_std ≡ true → source_of u ≡ source_of v
    source_same u v n m k l path std std_v =
        let std_a : is_std fa n ≡ true = sym k.side ∙ std in
        let q = folder_there p barred std_tree ta tb fa fb a.run.are b.run.are n (unit_within p barred ta std_tree fa a u n k) std_a in
        let number : q.number ≡ m = at_once fb v.path m q.number b.run.are.ordered (unit_within p barred tb std_tree fb b v m l, sym l.path) (q.within, path_same (folder_of fb q.number) (folder_of fa n) q.same ∙ sym k.path ∙ path) in
        let same : folder_of fb m ≡ folder_of fa n = ap (folder_of fb) (sym number) ∙ q.same in
        let files : u.files ≡ v.files = files_are ta tb fa fb a.run b.run n m same std_a u v k l in
        let name : u.name ≡ v.name = named_by u.files v.files u.name v.name k.some files u.named v.named in
        let side : u.from_std ≡ v.from_std = std ∙ sym std_v in
        λ i. record { path = path i; name = name i; from_std = side i; files = map file_of (files i) }

    module _ (old_barred : Has barred ta.module) (new_barred : Has barred tb.module) where
      side_by : (u v : PackageUnit) (x y : Bool) → Has a.units.packages u → Has b.units.packages v → u.path ≡ v.path → u.from_std ≡ x → v.from_std ≡ y → x ≡ y
      side_by u v true true h l path e f = refl
      side_by u v false false h l path e f = refl
      side_by u v true false h l path e f = absurd (std_apart p barred ta std_tree fa a u tb.module h e new_barred (subst (λ (w : List ℕ). IsUnder w tb.module) (sym path) (own_under p barred tb std_tree fb b v l f)))
      side_by u v false true h l path e f = absurd (std_apart p barred tb std_tree fb b v ta.module l f old_barred (subst (λ (w : List ℕ). IsUnder w ta.module) path (own_under p barred ta std_tree fa a u h e)))

      -- units with one path are both of the standard library, or neither; and where they are, they are the same
      pub share_units : ShareStdUnits (sources_of a.units) (sources_of b.units)
      share_units = record {
        sides = λ u v h l path. (
            let x = mapped_from source_of a.units.packages u h in
            let y = mapped_from source_of b.units.packages v l in
            let paths : x.0.path ≡ y.0.path = ap (λ (z : PackageSource). z.path) x.2 ∙ path ∙ sym (ap (λ (z : PackageSource). z.path) y.2) in
            sym (ap (λ (z : PackageSource). z.from_std) x.2) ∙ side_by x.0 y.0 x.0.from_std y.0.from_std x.1 y.1 paths refl refl ∙ ap (λ (z : PackageSource). z.from_std) y.2
            );
        same = λ u v h l path std. (
            let x = mapped_from source_of a.units.packages u h in
            let y = mapped_from source_of b.units.packages v l in
            let paths : x.0.path ≡ y.0.path = ap (λ (z : PackageSource). z.path) x.2 ∙ path ∙ sym (ap (λ (z : PackageSource). z.path) y.2) in
            let here : x.0.from_std ≡ true = ap (λ (z : PackageSource). z.from_std) x.2 ∙ std in
            let k = a.all.sound x.0 x.1 in
            let j = b.all.sound y.0 y.1 in
            sym x.2 ∙ source_same x.0 y.0 k.0 j.0 k.1 j.1 paths here (sym (side_by x.0 y.0 x.0.from_std y.0.from_std x.1 y.1 paths refl refl) ∙ here) ∙ y.2
            );
      }
