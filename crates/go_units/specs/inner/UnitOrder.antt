-- What the functions keep that put the units of packages into canonical order.
use Rattle.std.specs.Prelude.{◌≡◌, ◌<◌, ◌≤◌, ◌⊎◌, ◌++◌, ◌∷◌, [], ℕ, Bool, false, Option, Some, None, List, length, take, Result, Ok, Err}
use Rattle.go_base.specs.Lists.{Has}
use Rattle.go_imports.specs.Gives.{Gives}
use Rattle.go_imports.specs.Orders.{IsCanonical}
use Rattle.go_units.specs.Reached.{ReadFolders, slot}
use Rattle.go_units.specs.UnitOrders.{InOrder, AreInOrder}
use Rattle.go_units.specs.UnitsOfModules.{holds_files, HoldsPackage, IsUnitOf, AreUnits, AreNeeds, IsCycle}
use Rattle.go_units.specs.inner.UnitMaking.{IsUnitWith, AreAlike}
use Rattle.go_units.specs.declared.folder.Folder.{Folder}
use Rattle.go_units.specs.declared.package_uses.PackageFile.{PackageFile}
use Rattle.go_units.specs.declared.unit.«Unit».{«Unit» as PackageUnit}
use Rattle.go_units.specs.declared.unit_error.UnitError.{UnitError}
use Rattle.go_units.specs.declared.unit_error.UnitError.TheVariants as error
use Rattle.go_units.specs.declared.unit_list.Units.{Units}

abbrev pub IsCycleOf : Folder → UnitError → Type 0
IsCycleOf folder (error.File at fault) = ⊥
IsCycleOf folder (error.MixedNames path) = ⊥
IsCycleOf folder (error.InternalUse at place) = ⊥
IsCycleOf folder (error.Cycle path) = folder.path ≡ path
IsCycleOf folder error.NoMemory = Unit {0}

-- the files of each package can make a unit
abbrev pub AreReadable : ReadFolders → Type 0
AreReadable slots = (n : ℕ) (files : List PackageFile) → slot slots n ≡ Some files → (length files < 4294967296) × AreAlike files

module _ (module_path : List ℕ) (folders : List Folder) where
  -- the unit of a folder is added, where that holds a package
  abbrev pub AddsUnit : List Bool → ℕ → Option (List PackageFile) → List PackageUnit → List PackageUnit → Type 0
  AddsUnit packages n held old new =
      ((holds_files held ≡ false) × (new ≡ old))
      ⊎ ((files : List PackageFile) × (held ≡ Some files) × (u : PackageUnit) × IsUnitWith module_path folders packages n files u × (new ≡ old ++ u ∷ []))

  abbrev pub GivesUnit : ReadFolders → ℕ → Option PackageUnit → Type 0
  GivesUnit slots n None = HoldsPackage slots n → ⊥
  GivesUnit slots n (Some u) = IsUnitOf module_path folders slots n u

  abbrev pub IsSomeUnit : ReadFolders → PackageUnit → Type 0
  IsSomeUnit slots u = (n : ℕ) × IsUnitOf module_path folders slots n u

  -- the units of the folders before a place of the order are made, and the files of the others are left
  pub record Making (slots : ReadFolders) (order : List ℕ) (at : ℕ) (left : ReadFolders) (units : List PackageUnit) : Type 0 where
    pub kept : (m : ℕ) → (Has (take at order) m → ⊥) → slot left m ≡ slot slots m
    pub rows : length left ≡ length slots
    pub made : Gives (GivesUnit slots) (take at order) units
    pub placed : InOrder (IsSomeUnit slots) units

  -- an order of the folders in which what a package needs stands before it
  abbrev pub HasOrder : ReadFolders → List ℕ → Type 0
  HasOrder slots order = (graph : List (List ℕ)) × AreNeeds module_path folders slots graph × IsCanonical graph order

  -- the units of all packages in canonical order
  pub record UnitsAre (slots : ReadFolders) (units : List PackageUnit) : Type 0 where
    pub all : AreUnits module_path folders slots units
    pub ordered : AreInOrder units
    pub few : length units ≤ length folders

  abbrev pub Orders : ReadFolders → Result Units UnitError → Type 0
  Orders slots (Ok units) = AreUnits module_path folders slots units.packages
  Orders slots (Err (error.File at fault)) = ⊥
  Orders slots (Err (error.MixedNames path)) = ⊥
  Orders slots (Err (error.InternalUse at place)) = ⊥
  Orders slots (Err (error.Cycle path)) = IsCycle module_path folders slots path
  Orders slots (Err error.NoMemory) = Unit {0}
