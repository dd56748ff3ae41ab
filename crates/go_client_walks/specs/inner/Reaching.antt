-- What the functions keep that read one folder after another.
use Rattle.std.specs.Prelude.{◌≡◌, ◌⊎◌, ℕ, false, List, length, Result, Ok, Err}
use Rattle.go_base.specs.Lists.{Has}
use Rattle.go_client_walks.specs.ClientWalks.{IsAskedWith, IsFirstRefusal, IsOwnRefusal, Walked}
use Rattle.go_client_walks.specs.declared.units.WalkedClient.{WalkedClient}
use Rattle.go_imports.specs.Gives.{Gives}
use Rattle.go_units.specs.Reached.{IsFresh, ReadFolders}
use Rattle.go_units.specs.UnitsOfModules.{AreUnits, GivesUnitFile, IsCycle, packages_in}
use Rattle.go_units.specs.declared.folder.Folder.{Folder}
use Rattle.go_units.specs.declared.package_uses.PackageFile.{PackageFile}
use Rattle.go_units.specs.declared.reader.Reading.{Reading}
use Rattle.go_units.specs.declared.unit_error.UnitError.{UnitError}
use Rattle.go_units.specs.declared.unit_error.UnitError.TheVariants as error

module _ (client : List PackageFile) (module_path : List ℕ) (folders : List Folder) where
  module _ (gives : ℕ → Reading → Type 0) where
    -- the folders that are read, those that are pending, and those that are left besides
    pub record Reaching (slots : ReadFolders) (pending : List ℕ) (left : ℕ → Type 0) : Type 0 where
      pub walked : Walked client module_path folders gives slots
      pub rows : length slots ≡ length folders
      pub sound : (m : ℕ) → Has pending m → IsAskedWith client module_path folders slots m × IsFresh slots m
      pub cover : (m : ℕ) → IsAskedWith client module_path folders slots m → IsFresh slots m → Has pending m ⊎ left m

    -- the first refusal; want of memory may come at any time
    abbrev pub ReachCause : UnitError → Type 0
    ReachCause (error.File at fault) = IsFirstRefusal client module_path folders gives (error.File at fault)
    ReachCause (error.MixedNames path) = IsFirstRefusal client module_path folders gives (error.MixedNames path)
    ReachCause (error.InternalUse at place) = IsFirstRefusal client module_path folders gives (error.InternalUse at place)
    ReachCause (error.Cycle path) = ⊥
    ReachCause error.NoMemory = Unit {0}

    -- the same of the module's folders
    abbrev pub OwnCause : UnitError → Type 0
    OwnCause (error.File at fault) = IsOwnRefusal module_path folders gives client (error.File at fault)
    OwnCause (error.MixedNames path) = IsOwnRefusal module_path folders gives client (error.MixedNames path)
    OwnCause (error.InternalUse at place) = IsOwnRefusal module_path folders gives client (error.InternalUse at place)
    OwnCause (error.Cycle path) = ⊥
    OwnCause error.NoMemory = Unit {0}

  -- the units of what is read with the files of the client, or the least package on a cycle
  abbrev pub Finishes : ReadFolders → Result WalkedClient UnitError → Type 0
  Finishes slots (Ok w) = AreUnits module_path folders slots w.units.packages × Gives (GivesUnitFile module_path folders (packages_in slots) false) client w.files
  Finishes slots (Err (error.File at fault)) = ⊥
  Finishes slots (Err (error.MixedNames path)) = ⊥
  Finishes slots (Err (error.InternalUse at place)) = ⊥
  Finishes slots (Err (error.Cycle path)) = IsCycle module_path folders slots path
  Finishes slots (Err error.NoMemory) = Unit {0}
