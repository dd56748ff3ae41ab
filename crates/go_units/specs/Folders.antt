-- Folders that may hold packages, and the one that an import path names.
-- Public source: Go specification, "Import declarations" and "Program execution" (package `main`); the documentation of Go's command line, "Import path syntax".
-- Own: there is one module and one tree of the standard library, and a path is sought in one of them alone.
use Rattle.std.specs.Prelude.{◌≡◌, ◌≢◌, ◌<◌, ◌⊎◌, ℕ, Bool, true, false, Option, Some, None, List, [], length, get_or, map, codes}
use Rattle.go_base.specs.Lists.{Ascending}
use Rattle.go_imports.specs.ImportPaths.{IsUnder}
use Rattle.go_units.specs.declared.folder.Folder.{Folder}

abbrev pub no_folder : Folder
no_folder = record { path = []; from_std = false; package_name = None }

-- the folder of a number
abbrev pub folder_of : List Folder → ℕ → Folder
folder_of folders n = get_or folders n no_folder

abbrev pub path_of : Folder → List ℕ
path_of f = f.path

-- the folders stand in the order of their paths, and no path stands twice; so the least number is the least path
abbrev pub AreOrdered : List Folder → Type 0
AreOrdered folders = Ascending (map path_of folders)

-- where an import path is sought. A package of the module seeks a path that equals the module's path or lies under it in the module alone, and any other in the
-- standard library alone; a package of the standard library seeks every path there
abbrev pub IsSought : List ℕ → Bool → List ℕ → Bool → Type 0
IsSought module_path true path true = Unit {0}
IsSought module_path true path false = ⊥
IsSought module_path false path true = IsUnder path module_path → ⊥
IsSought module_path false path false = IsUnder path module_path

-- a package may be found in the folder: its path isn't `unsafe`, and its name isn't `main`
pub record MayBeFound (folder : Folder) : Type 0 where
  pub safe : folder.path ≢ codes "unsafe"
  pub library : folder.package_name ≢ Some (codes "main")

module _ (module_path : List ℕ) (folders : List Folder) where
  -- an import path, in a package of the standard library or of the module, names the folder of this number
  pub record NamesFolder (from_std : Bool) (path : List ℕ) (n : ℕ) : Type 0 where
    pub within : n < length folders
    pub same : (folder_of folders n).path ≡ path
    pub sought : IsSought module_path from_std path (folder_of folders n).from_std

  -- the name in the package clause of what an import path names, where that is there and says one
  abbrev pub IsImportedName : Bool → List ℕ → Option (List ℕ) → Type 0
  IsImportedName from_std path said = ((n : ℕ) × NamesFolder from_std path n × ((folder_of folders n).package_name ≡ said)) ⊎ (((n : ℕ) → NamesFolder from_std path n → ⊥) × (said ≡ None))

  -- a used import asks for the folder, which stands in the standard library
  pub record AsksFor (from_std : Bool) (path : List ℕ) (n : ℕ) : Type 0 where
    pub names : NamesFolder from_std path n
    pub side : (folder_of folders n).from_std ≡ true
    pub permitted : MayBeFound (folder_of folders n)

  -- an import is found in the folder, where these folders hold packages
  pub record IsFound (packages : List Bool) (from_std : Bool) (path : List ℕ) (n : ℕ) : Type 0 where
    pub names : NamesFolder from_std path n
    pub permitted : MayBeFound (folder_of folders n)
    pub known : (folder_of folders n).package_name ≢ None
    pub holds : get_or packages n false ≡ true
