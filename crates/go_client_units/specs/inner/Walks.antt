-- What the functions answer that join a client to what it and its module reach.
use Rattle.std.specs.Prelude.{◌≡◌, ◌⊎◌, ℕ, List, [], Result, Ok, Err}
use Rattle.go_base.specs.Lists.{Has}
use Rattle.go_client_files.specs.declared.uses.ClientFiles.{ClientFiles}
use Rattle.go_client_units.specs.ClientUnits.{AreUnitsWith}
use Rattle.go_client_units.specs.declared.units.ClientUnits.{ClientUnits}
use Rattle.go_client_walks.specs.ClientWalks.{Answers, IsOwnRefusal, ModuleIsRead}
use Rattle.go_units.specs.Reached.{ReadFolders}
use Rattle.go_units.specs.declared.folder.Folder.{Folder}
use Rattle.go_units.specs.declared.reader.Reading.{Reading}
use Rattle.go_units.specs.declared.unit.UnitFile.{UnitFile}
use Rattle.go_units.specs.declared.unit_error.UnitError.{UnitError}
use Rattle.go_units.specs.declared.unit_error.UnitError.TheVariants as error

-- the package clauses of the files have one name
abbrev pub IsNamedAlike : List UnitFile → Type 0
IsNamedAlike files = (f g : UnitFile) → Has files f → Has files g → f.outline.«package».text ≡ g.outline.«package».text

module _ (module_path : List ℕ) (folders : List Folder) (gives : ℕ → Reading → Type 0) where
  abbrev pub AreWalked : ClientFiles → Result ClientUnits UnitError → Type 0
  AreWalked list (Ok r) = AreUnitsWith module_path folders gives list r
  AreWalked list (Err e) = Answers list.files module_path folders gives (Err e)

  -- the refusal of the module, else the other one; want of memory may come at any time
  abbrev pub Refuses : UnitError → UnitError → Type 0
  Refuses e error.NoMemory = Unit {0}
  Refuses e r = IsOwnRefusal module_path folders gives [] r ⊎ (((slots : ReadFolders) × ModuleIsRead module_path folders gives slots) × (e ≡ r))
