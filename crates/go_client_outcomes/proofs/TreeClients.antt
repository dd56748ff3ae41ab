-- Trees with a client have units on a platform, or a first refusal.
use Rattle.std.proofs.Common.{◌≡◌, ℕ, ◌<◌, ◌≤◌, ◌+◌, Bool, true, false, List, length, Option, Result, Ok, Err, refl, arith}
use Rattle.std.specs.List.{filter}
use Rattle.std.specs.Str.{bytes_eq}
use Rattle.go_client_outcomes.proofs.ClientUnits.{client_units_end}
use Rattle.go_client_units.specs.ClientUnits.{AnswersOfClient, AreClientUnits}
use Rattle.go_client_units.specs.declared.units.ClientUnits.{ClientUnits}
use Rattle.go_existence.specs.Existence.{NotNone}
use Rattle.go_existence.proofs.DoubleNegation.{bind, so}
use Rattle.go_imports.specs.ImportPaths.{IsUnder}
use Rattle.go_imports.specs.declared.package_files.SourceFile.{SourceFile}
use Rattle.go_model.specs.declared.files.platform.Platform.{Platform}
use Rattle.go_model.specs.declared.files.tree.Tree.{Tree}
use Rattle.go_model.specs.declared.files.tree.TreeFile.{TreeFile}
use Rattle.go_model.specs.files.Trees.{IsTree}
use Rattle.go_reading.proofs.FilesByName.{by_name_length}
use Rattle.go_reading.proofs.ListFacts.{kept_shorter}
use Rattle.go_reading.specs.ChosenFiles.{GivesSource}
use Rattle.go_reading.specs.FolderReadings.{IsPackageName}
use Rattle.go_reading.specs.TreeFolders.{AreTreeFolders, IsTreeFolder, ReadsFolder, files_at, files_of, import_path}
use Rattle.go_unit_outcomes.proofs.FileReadings.{files_read}
use Rattle.go_unit_outcomes.proofs.TreeFolderLists.{tree_folders}
use Rattle.go_units.proofs.Giving.{gives_fewer}
use Rattle.go_units.specs.Folders.{folder_of}
use Rattle.go_units.specs.declared.folder.Folder.{Folder}
use Rattle.go_units.specs.declared.reader.Reading.TheVariants as reading
use Rattle.go_units.specs.declared.unit_error.UnitError.{UnitError}
use Rattle.go_units.specs.declared.unit_error.UnitError.TheVariants as error

module _ (p : Platform) (barred : List (List ℕ)) (tree std_tree client : Tree)
    (one : (files : List TreeFile) (a b : Option (List ℕ)) → IsPackageName p files a → IsPackageName p files b → a ≡ b)
    (own : (f : Folder) → IsTreeFolder p barred tree std_tree f → f.from_std ≡ false → IsUnder f.path tree.«module»)
    (std : (f : Folder) → IsTreeFolder p barred tree std_tree f → f.from_std ≡ true → IsUnder f.path tree.«module» → ⊥)
    (is_tree : IsTree tree) (is_std : IsTree std_tree) (is_client : IsTree client) where
  few_at : (side : Bool) (path : List ℕ) → length (files_at p barred tree std_tree side path) ≤ 20000
  few_at side path =
      let here : TreeFile → Bool = λ f. bytes_eq (import_path tree.«module» side f.folder) path in
      let a = by_name_length (filter here (files_of p barred tree std_tree side)) in
      let b = kept_shorter here (files_of p barred tree std_tree side) in
      let c = of_side side in omega (arith, a, b, c)
    where
      of_side : (side : Bool) → length (files_of p barred tree std_tree side) ≤ 20000
      of_side true = is_std.few
      of_side false = is_tree.few

  as_units : (r : Result ClientUnits UnitError) → (r ≡ Err error.NoMemory → ⊥) → AnswersOfClient p barred tree std_tree client r → AreClientUnits p barred tree std_tree client r
  as_units (Ok units) n h = h
  as_units (Err (error.File at f)) n h = h
  as_units (Err (error.MixedNames path)) n h = h
  as_units (Err (error.InternalUse at place)) n h = h
  as_units (Err (error.Cycle path)) n h = h
  as_units (Err error.NoMemory) n h = absurd (n refl)

  small : (folders : List Folder) (n : ℕ) (sources : List SourceFile) → ReadsFolder p barred tree std_tree folders n (reading.Files sources) → length sources < 4294967296
  small folders n sources g =
      let a = gives_fewer (GivesSource p) g in
      let b = few_at (folder_of folders n).from_std (folder_of folders n).path in omega (arith, a, b)

  abbrev Ends : Type 0
  Ends = (r : Result ClientUnits UnitError) × (r ≡ Err error.NoMemory → ⊥) × AreClientUnits p barred tree std_tree client r

  of_folders : (folders : List Folder) → AreTreeFolders p barred tree std_tree folders → length folders ≤ length tree.files + length std_tree.files → NotNone Ends
  of_folders folders are few =
      so (client_units_end tree.«module» folders are.ordered (let a = is_tree.few in let b = is_std.few in omega (arith, few, a, b)) (ReadsFolder p barred tree std_tree folders)
      (λ n h. files_read p (files_at p barred tree std_tree (folder_of folders n).from_std (folder_of folders n).path)) (small folders) p client is_client) (λ r. (r.0, r.1, as_units r.0 r.1 (folders, are, r.2)))

  pub tree_clients_end : NotNone ((r : Result ClientUnits UnitError) × (r ≡ Err error.NoMemory → ⊥) × AreClientUnits p barred tree std_tree client r)
  tree_clients_end = bind (tree_folders p barred tree std_tree one own std) (λ k. of_folders k.0 k.1 k.2)
