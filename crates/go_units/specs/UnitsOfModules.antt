-- The units of a module on a platform: its packages, and those of the standard library that they reach. And why there are none.
-- Public source: Go specification, "Packages", "Import declarations" (a package may not import itself, directly or indirectly), "Package initialization". Own: the order of
-- refusals.
use Rattle.std.specs.Prelude.{◌≡◌, ◌<◌, ◌↔◌, ℕ, Bool, true, false, nat_lt, Option, Some, None, List, length, get_or, map, Result, Ok, Err}
use Rattle.go_base.specs.Lists.{Has}
use Rattle.go_imports.specs.Gives.{Gives}
use Rattle.go_imports.specs.Orders.{needs_of, IsLeastOnCycle}
use Rattle.go_imports.specs.declared.used_imports.NamedImport.{NamedImport}
use Rattle.go_units.specs.Folders.{folder_of, IsFound}
use Rattle.go_units.specs.Reached.{ReadFolders, slot, is_std, AllAreRead, IsFirstRefusal}
use Rattle.go_units.specs.declared.folder.Folder.{Folder}
use Rattle.go_units.specs.declared.package_uses.PackageFile.{PackageFile}
use Rattle.go_units.specs.declared.reader.Reading.{Reading}
use Rattle.go_units.specs.declared.unit.«Unit».{«Unit» as PackageUnit}
use Rattle.go_units.specs.declared.unit.UnitFile.{UnitFile}
use Rattle.go_units.specs.declared.unit.UsedImport.{UsedImport}
use Rattle.go_units.specs.declared.unit_error.UnitError.{UnitError}
use Rattle.go_units.specs.declared.unit_error.UnitError.TheVariants as error
use Rattle.go_units.specs.declared.unit_list.Units.{Units}

-- a folder holds a package where it is read and a file remains
abbrev pub holds_files : Option (List PackageFile) → Bool
holds_files None = false
holds_files (Some files) = nat_lt 0 (length files)

-- which folders hold packages
abbrev pub packages_in : ReadFolders → List Bool
packages_in slots = map holds_files slots

abbrev pub HoldsPackage : ReadFolders → ℕ → Type 0
HoldsPackage slots n = get_or (packages_in slots) n false ≡ true

module _ (module_path : List ℕ) (folders : List Folder) where
  -- a used import of a unit: it is found exactly where its path names a folder that holds a package
  pub record IsUsedImport (packages : List Bool) (from_std : Bool) (u : NamedImport) (i : UsedImport) : Type 0 where
    pub names : i.name ≡ u.name
    pub path : i.path ≡ u.path
    pub place : i.place ≡ u.place
    pub is_found : (i.found ≡ true) ↔ ((m : ℕ) × IsFound module_path folders packages from_std u.path m)

  abbrev pub GivesUse : List Bool → Bool → NamedImport → Option UsedImport → Type 0
  GivesUse packages from_std u None = ⊥
  GivesUse packages from_std u (Some i) = IsUsedImport packages from_std u i

  -- a file of a unit
  pub record IsUnitFile (packages : List Bool) (from_std : Bool) (f : PackageFile) (g : UnitFile) : Type 0 where
    pub path : g.path ≡ f.path
    pub reads : g.outline ≡ f.outline
    pub given : Gives (GivesUse packages from_std) f.uses g.imports

  abbrev pub GivesUnitFile : List Bool → Bool → PackageFile → Option UnitFile → Type 0
  GivesUnitFile packages from_std f None = ⊥
  GivesUnitFile packages from_std f (Some g) = IsUnitFile packages from_std f g

  -- the unit of the package in a folder
  pub record IsUnitOf (slots : ReadFolders) (n : ℕ) (u : PackageUnit) : Type 0 where
    pub members : List PackageFile
    pub held : slot slots n ≡ Some members
    pub path : u.path ≡ (folder_of folders n).path
    pub side : u.from_std ≡ is_std folders n
    pub given : Gives (GivesUnitFile (packages_in slots) (is_std folders n)) members u.files
    pub some : 0 < length u.files

  -- the units of all packages; their order is that of every `Units`
  pub record AreUnits (slots : ReadFolders) (units : List PackageUnit) : Type 0 where
    pub sound : (u : PackageUnit) → Has units u → (n : ℕ) × IsUnitOf slots n u
    pub complete : (n : ℕ) → HoldsPackage slots n → (u : PackageUnit) × Has units u × IsUnitOf slots n u

  -- a package in a folder uses an import that is found in another
  abbrev pub FileNeeds : List Bool → Bool → PackageFile → ℕ → Type 0
  FileNeeds packages from_std f m = (u : NamedImport) × Has f.uses u × IsFound module_path folders packages from_std u.path m

  abbrev pub FilesNeed : List Bool → Bool → List PackageFile → ℕ → Type 0
  FilesNeed packages from_std files m = (f : PackageFile) × Has files f × FileNeeds packages from_std f m

  abbrev pub Needs : ReadFolders → ℕ → ℕ → Type 0
  Needs slots n m = (files : List PackageFile) × (slot slots n ≡ Some files) × FilesNeed (packages_in slots) (is_std folders n) files m

  -- the needs of all folders, as lists
  pub record AreNeeds (slots : ReadFolders) (graph : List (List ℕ)) : Type 0 where
    pub rows : length graph ≡ length folders
    pub sound : (n m : ℕ) → Has (needs_of graph n) m → Needs slots n m
    pub complete : (n m : ℕ) → Needs slots n m → Has (needs_of graph n) m

  -- the package with this path is the least one on a cycle
  abbrev pub IsCycle : ReadFolders → List ℕ → Type 0
  IsCycle slots path = (graph : List (List ℕ)) × AreNeeds slots graph × (n : ℕ) × IsLeastOnCycle graph n × ((folder_of folders n).path ≡ path)

  module _ (gives : ℕ → Reading → Type 0) where
    -- the units of all packages, or the first refusal: of a folder, in the order in which they are read, and after them the least package on a cycle; want of memory
    -- may come at any time
    abbrev pub Answers : Result Units UnitError → Type 0
    Answers (Ok units) = (slots : ReadFolders) × AllAreRead module_path folders gives slots × AreUnits slots units.packages
    Answers (Err (error.File at fault)) = IsFirstRefusal module_path folders gives (error.File at fault)
    Answers (Err (error.MixedNames path)) = IsFirstRefusal module_path folders gives (error.MixedNames path)
    Answers (Err (error.InternalUse at place)) = IsFirstRefusal module_path folders gives (error.InternalUse at place)
    Answers (Err (error.Cycle path)) = (slots : ReadFolders) × AllAreRead module_path folders gives slots × IsCycle slots path
    Answers (Err error.NoMemory) = Unit {0}
