-- Two modules over one tree of the standard library have the same folders of it.
use Rattle.std.proofs.Common.{◌≡◌, ◌<◌, ℕ, Bool, true, false, Option, List, length, refl, sym, ap, ◌∙◌, subst, inl, inr}
use mathlib.Core.Bool.{true≢false}
use Rattle.go_base.specs.Lists.{Has}
use Rattle.go_imports.proofs.Members.{has_at, has_place}
use Rattle.go_model.specs.declared.files.platform.Platform.{Platform}
use Rattle.go_model.specs.declared.files.tree.Tree.{Tree}
use Rattle.go_model.specs.declared.files.tree.TreeFile.{TreeFile}
use Rattle.go_reading.specs.FolderReadings.{IsPackageName}
use Rattle.go_reading.specs.TreeFolders.{AreTreeFolders, IsTreeFolder, files_at}
use Rattle.go_units.proofs.FolderLookups.{at_once}
use Rattle.go_units.specs.Folders.{IsImportedName, IsSought, NamesFolder, folder_of, no_folder}
use Rattle.go_units.specs.Reached.{is_std}
use Rattle.go_units.specs.declared.folder.Folder.{Folder}

-- what a package of the standard library seeks is of the standard library
sought_std : (module_path path : List ℕ) (s : Bool) → IsSought module_path true path s → s ≡ true
sought_std module_path path true h = refl
sought_std module_path path false h = absurd h

std_sought : (module_path path : List ℕ) (s : Bool) → s ≡ true → IsSought module_path true path s
std_sought module_path path true e = tt
std_sought module_path path false e = absurd (true≢false (sym e))

pub named_std : (module_path : List ℕ) (folders : List Folder) (path : List ℕ) (n : ℕ) → NamesFolder module_path folders true path n → is_std folders n ≡ true
named_std module_path folders path n k = sought_std module_path path (folder_of folders n).from_std k.sought

module _ (p : Platform) (barred : List (List ℕ)) (std_tree ta tb : Tree) where
  -- the files of a folder of the standard library are the same beside both modules
  pub std_files : (s : Bool) (path : List ℕ) → s ≡ true → files_at p barred ta std_tree s path ≡ files_at p barred tb std_tree s path
  std_files true path e = refl
  std_files false path e = absurd (true≢false (sym e))

  pub std_folder : (f : Folder) → f.from_std ≡ true → IsTreeFolder p barred ta std_tree f → IsTreeFolder p barred tb std_tree f
  std_folder f std t =
      let same = std_files f.from_std f.path std in record {
        some = λ e. t.some (same ∙ e);
        package_name = subst (λ (fs : List TreeFile). IsPackageName p fs f.package_name) same t.package_name;
        counts = λ e. record { kept = (t.counts e).kept; says = λ n file h. (t.counts e).says n file (subst (λ (fs : List TreeFile). Has fs file) (sym same) h) };
      }

  -- the folders of the one are among those of the other, and import paths name the same ones
  module _ (fa fb : List Folder) (a : AreTreeFolders p barred ta std_tree fa) (b : AreTreeFolders p barred tb std_tree fb) where
    pub record IsThere (n : ℕ) : Type 0 where
      pub number : ℕ
      pub within : number < length fb
      pub same : folder_of fb number ≡ folder_of fa n

    pub folder_there : (n : ℕ) → n < length fa → is_std fa n ≡ true → IsThere n
    folder_there n l std =
        let f = folder_of fa n in
        let q = has_place fb f no_folder (b.complete f (std_folder f std (a.sound f (has_at fa n no_folder l)))) in
        record { number = q.0; within = q.1; same = q.2 }

    pub names_there : (path : List ℕ) (n : ℕ) → NamesFolder ta.module fa true path n → (q : IsThere n) × NamesFolder tb.module fb true path q.number
    names_there path n k =
        let std = named_std ta.module fa path n k in
        let q = folder_there n k.within std in
        (q, record { within = q.within; same = ap (λ (f : Folder). f.path) q.same ∙ k.same; sought = std_sought tb.module path (is_std fb q.number) (ap (λ (f : Folder). f.from_std) q.same ∙ std) })

module _ (p : Platform) (barred : List (List ℕ)) (std_tree ta tb : Tree) (fa fb : List Folder) (a : AreTreeFolders p barred ta std_tree fa) (b : AreTreeFolders p barred tb std_tree fb) where
  -- the folder that an import path names is one
  pub one_named : (path : List ℕ) (n m : ℕ) → NamesFolder tb.module fb true path n → NamesFolder tb.module fb true path m → n ≡ m
  one_named path n m k l = at_once fb path m n b.ordered (l.within, l.same) (k.within, k.same)

  pub named_same : (path : List ℕ) (s t : Option (List ℕ)) → IsImportedName ta.module fa true path s → IsImportedName tb.module fb true path t → s ≡ t
  named_same path s t (inl k) (inl l) =
      let q = names_there p barred std_tree ta tb fa fb a b path k.0 k.1 in
      let n = one_named path q.0.number l.0 q.1 l.1 in
      sym k.2 ∙ ap (λ (f : Folder). f.package_name) (sym q.0.same ∙ ap (folder_of fb) n) ∙ l.2
  named_same path s t (inl k) (inr l) = let q = names_there p barred std_tree ta tb fa fb a b path k.0 k.1 in absurd (l.0 q.0.number q.1)
  named_same path s t (inr k) (inl l) = let q = names_there p barred std_tree tb ta fb fa b a path l.0 l.1 in absurd (k.0 q.0.number q.1)
  named_same path s t (inr k) (inr l) = k.1 ∙ sym l.1
