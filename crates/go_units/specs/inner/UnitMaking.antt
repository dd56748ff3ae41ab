-- What the functions gather that make units.
use Rattle.std.specs.Prelude.{◌≡◌, ◌<◌, ℕ, Bool, Some, List, length}
use Rattle.go_base.specs.Lists.{Has}
use Rattle.go_imports.specs.Gives.{Gives}
use Rattle.go_imports.specs.declared.used_imports.NamedImport.{NamedImport}
use Rattle.go_units.specs.Folders.{folder_of, IsFound}
use Rattle.go_units.specs.Reached.{ReadFolders, slot, is_std}
use Rattle.go_units.specs.UnitsOfModules.{GivesUnitFile, FilesNeed}
use Rattle.go_units.specs.declared.folder.Folder.{Folder}
use Rattle.go_units.specs.declared.package_uses.PackageFile.{PackageFile}
use Rattle.go_units.specs.declared.unit.«Unit».{«Unit» as PackageUnit}

module _ (module_path : List ℕ) (folders : List Folder) (packages : List Bool) where
  abbrev pub PathNeeds : Bool → List ℕ → ℕ → Type 0
  PathNeeds from_std path m = IsFound module_path folders packages from_std path m

  abbrev pub UsesNeed : Bool → List NamedImport → ℕ → Type 0
  UsesNeed from_std uses m = (u : NamedImport) × Has uses u × PathNeeds from_std u.path m

  abbrev pub NeedsBy : ReadFolders → ℕ → ℕ → Type 0
  NeedsBy slots n m = (files : List PackageFile) × (slot slots n ≡ Some files) × FilesNeed module_path folders packages (is_std folders n) files m

  -- the unit of these files in a folder
  pub record IsUnitWith (n : ℕ) (files : List PackageFile) (u : PackageUnit) : Type 0 where
    pub path : u.path ≡ (folder_of folders n).path
    pub side : u.from_std ≡ is_std folders n
    pub given : Gives (GivesUnitFile module_path folders packages (is_std folders n)) files u.files
    pub some : 0 < length u.files

-- the package clauses of the files have this name
abbrev pub PackageFilesAreNamed : List PackageFile → List ℕ → Type 0
PackageFilesAreNamed files name = (f : PackageFile) → Has files f → f.outline.«package».text ≡ name

-- the package clauses of the files have one name
abbrev pub AreAlike : List PackageFile → Type 0
AreAlike files = (f g : PackageFile) → Has files f → Has files g → f.outline.«package».text ≡ g.outline.«package».text
