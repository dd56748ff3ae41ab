-- The folders that are read for a module on a platform, with a client or without one.
use Rattle.std.proofs.Common.{◌≡◌, ◌<◌, ℕ, true, false, Option, Some, None, List, length, refl, sym, ap, ◌∙◌, subst, inl, inr}
use Rattle.go_client_walks.proofs.WalkedFiles as with_client
use Rattle.go_client_walks.specs.ClientWalks as client_walks
use Rattle.go_imports.specs.declared.package_files.SourceFile.{SourceFile}
use Rattle.go_model.specs.declared.files.platform.Platform.{Platform}
use Rattle.go_model.specs.declared.files.tree.Tree.{Tree}
use Rattle.go_model.specs.declared.files.tree.TreeFile.{TreeFile}
use Rattle.go_reading.specs.FolderReadings.{IsReading}
use Rattle.go_reading.specs.TreeFolders.{AreTreeFolders, ReadsFolder, files_at}
use Rattle.go_typings.proofs.Cells.{maybe}
use Rattle.go_unit_laws.proofs.OneFiles.{one_files}
use Rattle.go_unit_laws.proofs.OneWalk.{same_sources}
use Rattle.go_units.proofs.WalkedFiles.{flag_is, walked_read, walked_rows}
use Rattle.go_units.specs.Folders.{folder_of}
use Rattle.go_units.specs.PackageUses.{ArePackageFiles}
use Rattle.go_units.specs.Reached.{AllAreRead, AreAccepted, FilesAsk, IsAsked, IsFresh, ReadFolders, is_std, slot}
use Rattle.go_units.specs.UnitsOfModules.{HoldsPackage, holds_files}
use Rattle.go_units.specs.declared.folder.Folder.{Folder}
use Rattle.go_units.specs.declared.package_uses.PackageFile.{PackageFile}
use Rattle.go_units.specs.declared.reader.Reading.{Reading}
use Rattle.go_units.specs.declared.reader.Reading.TheVariants as reading

-- what holds a package has files
held_or : (o : Option (List PackageFile)) → holds_files o ≡ true → (files : List PackageFile) × (o ≡ Some files)
held_or None e = absurd (let g : false ≡ true = e in cc)
held_or (Some files) e = (files, refl)

-- a folder that holds a package has files
pub held_there : (slots : ReadFolders) (n : ℕ) → HoldsPackage slots n → (files : List PackageFile) × (slot slots n ≡ Some files)
held_there slots n h = held_or (slot slots n) (sym (flag_is slots n) ∙ h)

-- a folder with the files of one that holds a package holds one too
pub holds_alike : (slots others : ReadFolders) (m n : ℕ) (files held : List PackageFile) → slot slots m ≡ Some files → slot others n ≡ Some held → files ≡ held → HoldsPackage others n → HoldsPackage slots m
holds_alike slots others m n files held e f same h = flag_is slots m ∙ ap holds_files (e ∙ ap Some same ∙ sym f) ∙ sym (flag_is others n) ∙ h

-- a slot that isn't fresh holds files
pub filled : (slots : ReadFolders) (n : ℕ) → (IsFresh slots n → ⊥) → (files : List PackageFile) × (slot slots n ≡ Some files)
filled slots n h = elim (maybe (slot slots n)) [ inl q ↦ q | inr e ↦ absurd (h e) ]

module _ (p : Platform) (barred : List (List ℕ)) (tree std_tree : Tree) (folders : List Folder) where
  abbrev pub IsRead : ℕ → List PackageFile → Type 0
  IsRead n files = (sources : List SourceFile) × ReadsFolder p barred tree std_tree folders n (reading.Files sources) × AreAccepted tree.module folders n sources files

  -- what is read is accepted, and of what is asked for and of the module's folders none is left
  pub record Run : Type 0 where
    pub are : AreTreeFolders p barred tree std_tree folders
    pub slots : ReadFolders
    pub rows : length slots ≡ length folders
    pub read : (n : ℕ) (files : List PackageFile) → slot slots n ≡ Some files → IsRead n files
    pub asked : (m : ℕ) → IsAsked tree.module folders slots m → IsFresh slots m → ⊥
    pub own : (n : ℕ) → n < length folders → is_std folders n ≡ false → IsFresh slots n → ⊥

  abbrev pub run_alone : AreTreeFolders p barred tree std_tree folders → (slots : ReadFolders) → AllAreRead tree.module folders (ReadsFolder p barred tree std_tree folders) slots → Run
  run_alone are slots all = record {
    are = are;
    slots = slots;
    rows = walked_rows tree.module folders (ReadsFolder p barred tree std_tree folders) all.walked;
    read = λ n files e. walked_read tree.module folders (ReadsFolder p barred tree std_tree folders) all.walked n files e;
    asked = λ m a fresh. all.all m (record { within = a.3.2.2.names.within; why = inr a }) fresh;
    own = λ n within own fresh. all.all n (record { within = within; why = inl own }) fresh;
  }

  module _ (client : List PackageFile) where
    abbrev pub run_with : AreTreeFolders p barred tree std_tree folders → (slots : ReadFolders) → client_walks.AllAreRead client tree.module folders (ReadsFolder p barred tree std_tree folders) slots → Run
    run_with are slots all = record {
      are = are;
      slots = slots;
      rows = with_client.walked_rows client tree.module folders (ReadsFolder p barred tree std_tree folders) all.walked;
      read = λ n files e. with_client.walked_read client tree.module folders (ReadsFolder p barred tree std_tree folders) all.walked n files e;
      asked = λ m a fresh. all.all m (record { within = a.3.2.2.names.within; why = inr (inl a) }) fresh;
      own = λ n within own fresh. all.all n (record { within = within; why = inl own }) fresh;
    }

    -- so is what the client asks for
    pub client_asked : (slots : ReadFolders) → client_walks.AllAreRead client tree.module folders (ReadsFolder p barred tree std_tree folders) slots → (m : ℕ) → FilesAsk tree.module folders false client m → IsFresh slots m → ⊥
    client_asked slots all m a fresh = all.all m (record { within = a.2.2.names.within; why = inr (inr a) }) fresh

  module _ (one : (files : List TreeFile) (a b : Reading) → IsReading p files a → IsReading p files b → a ≡ b) (are : AreTreeFolders p barred tree std_tree folders) where
    -- a folder gives one list of files
    pub read_once : (n : ℕ) (files others : List PackageFile) → IsRead n files → IsRead n others → files ≡ others
    read_once n files others a b =
        let f = folder_of folders n in
        let sources : a.0 ≡ b.0 = same_sources a.0 b.0 (one (files_at p barred tree std_tree f.from_std f.path) (reading.Files a.0) (reading.Files b.0) a.1 b.1) in
        one_files tree.module folders are.ordered (is_std folders n) b.0 files others (subst (λ (ss : List SourceFile). ArePackageFiles tree.module folders (is_std folders n) ss files) sources a.2.given) b.2.given
