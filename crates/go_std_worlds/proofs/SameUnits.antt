-- A unit of the standard library that two modules reach is the same as it is written.
use Rattle.std.proofs.Common.{◌≡◌, ◌<◌, ℕ, Bool, true, false, Option, Some, None, List, [], ◌∷◌, map, length, refl, sym, ap, ◌∙◌, subst, inl, inr, arith}
use mathlib.Core.Bool.{true≢false}
use Rattle.go_base.specs.Lists.{Has}
use Rattle.go_imports.specs.Gives.{Gives}
use Rattle.go_imports.specs.declared.package_files.SourceFile.{SourceFile}
use Rattle.go_imports.specs.declared.used_imports.NamedImport.{NamedImport}
use Rattle.go_model.specs.declared.files.platform.Platform.{Platform}
use Rattle.go_model.specs.declared.files.tree.Tree.{Tree}
use Rattle.go_model.specs.declared.files.tree.TreeFile.{TreeFile}
use Rattle.go_reading.specs.FolderReadings.{IsReading}
use Rattle.go_reading.specs.TreeFolders.{AreTreeFolders, ReadsFolder, files_at}
use Rattle.go_sources.specs.UnitSources.{file_of, source_of}
use Rattle.go_units.proofs.FolderLookups.{at_once}
use Rattle.go_units.proofs.WalkedFiles.{flag_is, slot_within, walked_read, walked_rows}
use Rattle.go_units.specs.Folders.{AsksFor, IsFound, MayBeFound, folder_of}
use Rattle.go_units.specs.PackageUses.{ArePackageFiles}
use Rattle.go_units.specs.Reached.{AllAreRead, ReadFolders, is_std, slot}
use Rattle.go_units.specs.UnitFacts.{UnitFilesAreNamed}
use Rattle.go_units.specs.UnitsOfModules.{GivesUnitFile, GivesUse, IsUnitOf, holds_files, packages_in}
use Rattle.go_units.specs.declared.folder.Folder.{Folder}
use Rattle.go_units.specs.declared.package_uses.PackageFile.{PackageFile}
use Rattle.go_units.specs.declared.reader.Reading.{Reading}
use Rattle.go_units.specs.declared.reader.Reading.TheVariants as reading
use Rattle.go_units.specs.declared.unit.«Unit».{«Unit» as PackageUnit}
use Rattle.go_units.specs.declared.unit.UnitFile.{UnitFile}
use Rattle.go_units.specs.declared.unit.UsedImport.{UsedImport}
use Rattle.go_typings.proofs.Cells.{maybe}
use Rattle.go_std_worlds.proofs.GivenTwice.{gives_same}
use Rattle.go_std_worlds.proofs.SameFiles.{files_same}
use Rattle.go_std_worlds.proofs.SameFolders.{folder_there, named_same, named_std, names_there, std_files}

-- a module's folders, and those that are read
pub record Run (p : Platform) (barred : List (List ℕ)) (std_tree tree : Tree) : Type 0 where
  pub folders : List Folder
  pub are : AreTreeFolders p barred tree std_tree folders
  pub slots : ReadFolders
  pub all : AllAreRead tree.module folders (ReadsFolder p barred tree std_tree folders) slots

same_answer : (a b : Bool) → (a ≡ true → b ≡ true) → (b ≡ true → a ≡ true) → a ≡ b
same_answer true true f g = refl
same_answer true false f g = absurd (true≢false (sym (f refl)))
same_answer false true f g = absurd (true≢false (sym (g refl)))
same_answer false false f g = refl

same_sources : (s t : List SourceFile) → reading.Files s ≡ reading.Files t → s ≡ t
same_sources s t e = cc

held : (o : Option (List PackageFile)) → holds_files o ≡ true → (files : List PackageFile) × (o ≡ Some files)
held None e = absurd (true≢false (sym e))
held (Some files) e = (files, refl)

module _ (p : Platform) (barred : List (List ℕ)) (std_tree : Tree) (one : (files : List TreeFile) (a b : Reading) → IsReading p files a → IsReading p files b → a ≡ b) where
  module _ (ta tb : Tree) (a : Run p barred std_tree ta) (b : Run p barred std_tree tb) where
    -- a folder of the standard library that is read beside both modules gives the same files to its package
    read_same : (n m : ℕ) (files others : List PackageFile) → folder_of b.folders m ≡ folder_of a.folders n → is_std a.folders n ≡ true → slot a.slots n ≡ Some files → slot b.slots m ≡ Some others → files ≡ others
    read_same n m files others same std e f =
        let k = walked_read ta.module a.folders (ReadsFolder p barred ta std_tree a.folders) a.all.walked n files e in
        let l = walked_read tb.module b.folders (ReadsFolder p barred tb std_tree b.folders) b.all.walked m others f in
        let std_too : is_std b.folders m ≡ true = ap (λ (x : Folder). x.from_std) same ∙ std in
        let texts : files_at p barred tb std_tree (folder_of b.folders m).from_std (folder_of b.folders m).path ≡ files_at p barred ta std_tree (folder_of a.folders n).from_std (folder_of a.folders n).path =
        ap (λ (x : Folder). files_at p barred tb std_tree x.from_std x.path) same ∙ std_files p barred std_tree tb ta (folder_of a.folders n).from_std (folder_of a.folders n).path std in
        let sources : k.0 ≡ l.0 = same_sources k.0 l.0 (one _ (reading.Files k.0) (reading.Files l.0) k.1 (subst (λ (fs : List TreeFile). IsReading p fs (reading.Files l.0)) texts l.1)) in
        let here : ArePackageFiles ta.module a.folders true l.0 files = subst (λ (q : Bool × List SourceFile). ArePackageFiles ta.module a.folders q.0 q.1 files) (λ i. (std i, sources i)) k.2.given in
        let there : ArePackageFiles tb.module b.folders true l.0 others = subst (λ (s : Bool). ArePackageFiles tb.module b.folders s l.0 others) std_too l.2.given in
        files_same ta.module tb.module a.folders b.folders true (named_same p barred std_tree ta tb a.folders b.folders a.are b.are) l.0 files others here there

    module _ (m : ℕ) (members : List PackageFile) (std : is_std b.folders m ≡ true) (read : slot b.slots m ≡ Some members) where
      -- what a package of the standard library finds beside the one module is found beside the other, where it stands there too
      found_there : (f : PackageFile) (x : NamedImport) (j : ℕ) → Has members f → Has f.uses x → IsFound ta.module a.folders (packages_in a.slots) true x.path j
          → (i : ℕ) × IsFound tb.module b.folders (packages_in b.slots) true x.path i
      found_there f x j h u k =
          let q = names_there p barred std_tree ta tb a.folders b.folders a.are b.are x.path j k.names in
          let i = q.0.number in
          let same : folder_of b.folders i ≡ folder_of a.folders j = q.0.same in
          let side = named_std tb.module b.folders x.path i q.1 in
          let permitted : MayBeFound (folder_of b.folders i) = record { safe = λ e. k.permitted.safe (sym (ap (λ (z : Folder). z.path) same) ∙ e); library = λ e. k.permitted.library (sym (ap (λ (z : Folder). z.package_name) same) ∙ e) } in
          let was = held (slot a.slots j) (sym (flag_is a.slots j) ∙ k.holds) in
          elim (maybe (slot b.slots i)) [
            | inl g ↦ (
              i,
              record {
                names = q.1;
                permitted = permitted;
                known = λ e. k.known (sym (ap (λ (z : Folder). z.package_name) same) ∙ e);
                holds = flag_is b.slots i ∙ ap holds_files (g.1 ∙ ap Some (sym (read_same j i was.0 g.0 same (named_std ta.module a.folders x.path j k.names) was.1 g.1)) ∙ sym was.1) ∙ sym (flag_is a.slots j) ∙ k.holds;
              },
            )
            | inr none ↦ absurd (b.all.all i (record {
              within = q.1.within;
              why = inr (m, members, read, (f, h, (x, u, subst (λ (s : Bool). AsksFor tb.module b.folders s x.path i) (sym std) (record { names = q.1; side = side; permitted = permitted }))));
            }) none)
          ]

  module _ (ta tb : Tree) (a : Run p barred std_tree ta) (b : Run p barred std_tree tb) (n m : ℕ) (same : folder_of b.folders m ≡ folder_of a.folders n) (std : is_std a.folders n ≡ true) where
    std_too : is_std b.folders m ≡ true
    std_too = ap (λ (x : Folder). x.from_std) same ∙ std

    module _ (members : List PackageFile) (here : slot a.slots n ≡ Some members) (there : slot b.slots m ≡ Some members) where
      use_same : (f : PackageFile) → Has members f → (x : NamedImport) (r s : Option UsedImport) → Has f.uses x → GivesUse ta.module a.folders (packages_in a.slots) true x r → GivesUse tb.module b.folders (packages_in b.slots) true x s → r ≡ s
      use_same f h x None s u k l = absurd k
      use_same f h x (Some i) None u k l = absurd l
      use_same f h x (Some i) (Some j) u k l =
          let name : i.name ≡ j.name = k.names ∙ sym l.names in
          let path : i.path ≡ j.path = k.path ∙ sym l.path in
          let place : i.place ≡ j.place = k.place ∙ sym l.place in
          let found : i.found ≡ j.found = same_answer i.found j.found
          (λ e. (let q = k.is_found.0 e in l.is_found.1 (found_there ta tb a b m members std_too there f x q.0 h u q.1)))
          (λ e. (let q = l.is_found.0 e in k.is_found.1 (found_there tb ta b a n members std here f x q.0 h u q.1))) in
          λ t. Some (record { name = name t; path = path t; found = found t; place = place t })

      file_same : (f : PackageFile) (r s : Option UnitFile) → Has members f → GivesUnitFile ta.module a.folders (packages_in a.slots) true f r → GivesUnitFile tb.module b.folders (packages_in b.slots) true f s → r ≡ s
      file_same f None s h k l = absurd k
      file_same f (Some g) None h k l = absurd l
      file_same f (Some g) (Some q) h k l =
          let path : g.path ≡ q.path = k.path ∙ sym l.path in
          let outline : g.outline ≡ q.outline = k.reads ∙ sym l.reads in
          let imports : g.imports ≡ q.imports = gives_same (GivesUse ta.module a.folders (packages_in a.slots) true) (GivesUse tb.module b.folders (packages_in b.slots) true) (use_same f h) k.given l.given in
          λ t. Some (record { path = path t; outline = outline t; imports = imports t })

    files_are : (u v : PackageUnit) → IsUnitOf ta.module a.folders a.slots n u → IsUnitOf tb.module b.folders b.slots m v → u.files ≡ v.files
    files_are u v k l =
        let members : k.members ≡ l.members = read_same ta tb a b n m k.members l.members same std k.held l.held in
        let here : Gives (GivesUnitFile ta.module a.folders (packages_in a.slots) true) k.members u.files = subst (λ (s : Bool). Gives (GivesUnitFile ta.module a.folders (packages_in a.slots) s) k.members u.files) std k.given in
        let there : Gives (GivesUnitFile tb.module b.folders (packages_in b.slots) true) k.members v.files = subst (λ (q : Bool × List PackageFile). Gives (GivesUnitFile tb.module b.folders (packages_in b.slots) q.0) q.1 v.files) (λ i. (std_too i, sym members i)) l.given in
        gives_same (GivesUnitFile ta.module a.folders (packages_in a.slots) true) (GivesUnitFile tb.module b.folders (packages_in b.slots) true) (file_same k.members k.held (l.held ∙ ap Some (sym members))) here there

-- files of which there is one tell their package's name
named_by : (fs gs : List UnitFile) (a b : List ℕ) → 0 < length fs → fs ≡ gs → UnitFilesAreNamed fs a → UnitFilesAreNamed gs b → a ≡ b
named_by [] gs a b some e h k = absurd (omega (arith, some))
named_by (f ∷ fs) gs a b some e h k = sym (h f (inl refl)) ∙ k f (subst (λ (xs : List UnitFile). Has xs f) e (inl refl))

module _ (p : Platform) (barred : List (List ℕ)) (std_tree : Tree) (one : (files : List TreeFile) (a b : Reading) → IsReading p files a → IsReading p files b → a ≡ b) (ta tb : Tree) (a : Run p barred std_tree ta) (b : Run p barred std_tree tb) where
  -- units of the standard library with one path are the same
  pub source_same : (u v : PackageUnit) (n m : ℕ) → IsUnitOf ta.module a.folders a.slots n u → IsUnitOf tb.module b.folders b.slots m v → u.path ≡ v.path → u.from_std ≡ true → v.from_std ≡ true → source_of u ≡ source_of v
  source_same u v n m k l path std std_v =
      let rows_a = walked_rows ta.module a.folders (ReadsFolder p barred ta std_tree a.folders) a.all.walked in
      let rows_b = walked_rows tb.module b.folders (ReadsFolder p barred tb std_tree b.folders) b.all.walked in
      let in_a = slot_within a.slots n k.members k.held in
      let in_b = slot_within b.slots m l.members l.held in
      let here : n < length a.folders = omega (arith, in_a, rows_a) in
      let there : m < length b.folders = omega (arith, in_b, rows_b) in
      let std_a : is_std a.folders n ≡ true = sym k.side ∙ std in
      let q = folder_there p barred std_tree ta tb a.folders b.folders a.are b.are n here std_a in
      let number : q.number ≡ m = at_once b.folders v.path m q.number b.are.ordered (there, sym l.path) (q.within, ap (λ (x : Folder). x.path) q.same ∙ sym k.path ∙ path) in
      let same : folder_of b.folders m ≡ folder_of a.folders n = ap (folder_of b.folders) (sym number) ∙ q.same in
      let files : u.files ≡ v.files = files_are p barred std_tree one ta tb a b n m same std_a u v k l in
      let name : u.name ≡ v.name = named_by u.files v.files u.name v.name k.some files u.named v.named in
      let side : u.from_std ≡ v.from_std = std ∙ sym std_v in
      λ i. record { path = path i; name = name i; from_std = side i; files = map file_of (files i) }
