-- The folders of a module's tree and of the standard library's that may hold packages on a platform, and what their files give.
-- Public source: Go Modules Reference, "Packages" (a package's path is the module's, joined with its folder's); the documentation of Go's command line, "Import path
-- syntax". Own: a folder of the standard library is ignored under the path of a module of the run, and where the platform chooses files of it that say no package.
use Rattle.std.specs.Prelude.{◌≡◌, ◌≢◌, ◌⊎◌, ℕ, Bool, true, false, None, List, [], bytes_eq}
use Rattle.std.specs.List.{filter}
use Rattle.go_base.specs.Lists.{Has}
use Rattle.go_imports.specs.ImportPaths.{IsUnder}
use Rattle.go_load.specs.Names.{folder_path}
use Rattle.go_model.specs.declared.files.platform.Platform.{Platform}
use Rattle.go_model.specs.declared.files.tree.Tree.{Tree}
use Rattle.go_model.specs.declared.files.tree.TreeFile.{TreeFile}
use Rattle.go_reading.specs.ChosenFiles.{IsChosen}
use Rattle.go_reading.specs.FilesByName.{by_name}
use Rattle.go_reading.specs.FolderReadings.{IsPackageName, IsReading}
use Rattle.go_units.specs.Folders.{folder_of, AreOrdered}
use Rattle.go_units.specs.declared.folder.Folder.{Folder}
use Rattle.go_units.specs.declared.reader.Reading.{Reading}

-- the import path of a folder: in the standard library's tree its own path, and in the module's the module's path joined with its own
abbrev pub import_path : List ℕ → Bool → List ℕ → List ℕ
import_path module_path true folder = folder
import_path module_path false folder = folder_path module_path folder

-- the path equals one of these or lies under it
abbrev pub IsBarred : List (List ℕ) → List ℕ → Type 0
IsBarred barred path = (root : List ℕ) × Has barred root × IsUnder path root

-- a folder of the standard library that is ignored: its tree's root, and one with a barred path
abbrev pub IsIgnored : List (List ℕ) → List ℕ → Type 0
IsIgnored barred path = (path ≡ []) ⊎ IsBarred barred path

module _ (p : Platform) (barred : List (List ℕ)) (tree std_tree : Tree) where
  -- the files of one of the trees
  abbrev pub files_of : Bool → List TreeFile
  files_of true = std_tree.files
  files_of false = tree.files

  -- those in the folder with an import path, by their names
  abbrev pub files_at : Bool → List ℕ → List TreeFile
  files_at from_std path = by_name (filter (λ (f : TreeFile). bytes_eq (import_path tree.module from_std f.folder) path) (files_of from_std))

  -- a folder of the standard library counts: it isn't ignored, and where no file says its package, none is chosen
  pub record Counts (path : List ℕ) (files : List TreeFile) (f : Folder) : Type 0 where
    pub kept : IsIgnored barred path → ⊥
    pub says : f.package_name ≡ None → (file : TreeFile) → Has files file → IsChosen p file → ⊥

  -- a folder of the trees
  pub record IsTreeFolder (f : Folder) : Type 0 where
    pub some : files_at f.from_std f.path ≢ []
    pub package_name : IsPackageName p (files_at f.from_std f.path) f.package_name
    pub counts : f.from_std ≡ true → Counts f.path (files_at f.from_std f.path) f

  -- all folders of the trees, by their paths
  pub record AreTreeFolders (folders : List Folder) : Type 0 where
    pub ordered : AreOrdered folders
    pub sound : (f : Folder) → Has folders f → IsTreeFolder f
    pub complete : (f : Folder) → IsTreeFolder f → Has folders f

  -- what the files of the folder of a number give
  abbrev pub ReadsFolder : List Folder → ℕ → Reading → Type 0
  ReadsFolder folders n r = IsReading p (files_at (folder_of folders n).from_std (folder_of folders n).path) r
