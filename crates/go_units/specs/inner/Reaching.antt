-- What the functions keep that read one folder after another.
use Rattle.std.specs.Prelude.{◌≡◌, ◌<◌, ◌⊎◌, ℕ, Bool, false, Some, List, length, slice_set}
use Rattle.go_base.specs.Lists.{Has}
use Rattle.go_imports.specs.declared.package_files.SourceFile.{SourceFile}
use Rattle.go_imports.specs.declared.used_imports.NamedImport.{NamedImport}
use Rattle.go_units.specs.Folders.{AsksFor}
use Rattle.go_units.specs.Reached.{ReadFolders, slot, IsFresh, is_std, IsAsked, AreAccepted, Walked, IsFirstRefusal}
use Rattle.go_units.specs.declared.folder.Folder.{Folder}
use Rattle.go_units.specs.declared.package_uses.PackageFile.{PackageFile}
use Rattle.go_units.specs.declared.reader.Reading.{Reading}
use Rattle.go_units.specs.declared.reader.Reading.TheVariants as reading
use Rattle.go_units.specs.declared.unit_error.UnitError.{UnitError}
use Rattle.go_units.specs.declared.unit_error.UnitError.TheVariants as error

-- all folders of the module are read
abbrev pub HasModule : List Folder → ReadFolders → Type 0
HasModule folders slots = (m : ℕ) → m < length folders → is_std folders m ≡ false → IsFresh slots m → ⊥

-- of the folders of the module exactly those before a number are read, and no other folder is
abbrev pub HasModuleTo : List Folder → ReadFolders → ℕ → Type 0
HasModuleTo folders slots at = ((m : ℕ) → m < at → is_std folders m ≡ false → IsFresh slots m → ⊥) × ((m : ℕ) → (IsFresh slots m → ⊥) → m < at)

-- a folder was read
abbrev pub Advances : ReadFolders → ℕ → ReadFolders → Type 0
Advances slots n slots2 = (files : List PackageFile) × (slots2 ≡ slice_set slots n (Some files))

module _ (module_path : List ℕ) (folders : List Folder) where
  -- an import asks for a folder that isn't read
  abbrev pub PathAsks : ReadFolders → Bool → List ℕ → ℕ → Type 0
  PathAsks slots from_std path m = AsksFor module_path folders from_std path m × IsFresh slots m

  abbrev pub UseAsks : ReadFolders → Bool → NamedImport → ℕ → Type 0
  UseAsks slots from_std u m = PathAsks slots from_std u.path m

  abbrev pub UsesAsk : ReadFolders → Bool → List NamedImport → ℕ → Type 0
  UsesAsk slots from_std uses m = (u : NamedImport) × Has uses u × UseAsks slots from_std u m

  abbrev pub FileAsksNew : ReadFolders → Bool → PackageFile → ℕ → Type 0
  FileAsksNew slots from_std f m = UsesAsk slots from_std f.uses m

  abbrev pub FilesAskNew : ReadFolders → Bool → List PackageFile → ℕ → Type 0
  FilesAskNew slots from_std files m = (f : PackageFile) × Has files f × FileAsksNew slots from_std f m

  abbrev pub AsksNew : ReadFolders → ℕ → ℕ → Type 0
  AsksNew slots n m = (files : List PackageFile) × (slot slots n ≡ Some files) × FilesAskNew slots (is_std folders n) files m

  module _ (gives : ℕ → Reading → Type 0) where
    abbrev pub GivesAccepted : ℕ → List PackageFile → Type 0
    GivesAccepted n files = (sources : List SourceFile) × gives n (reading.Files sources) × AreAccepted module_path folders n sources files

    -- the folders that are read, those that are pending, and those that are left besides
    pub record Reaching (slots : ReadFolders) (pending : List ℕ) (left : ℕ → Type 0) : Type 0 where
      pub walked : Walked module_path folders gives slots
      pub rows : length slots ≡ length folders
      pub sound : (m : ℕ) → Has pending m → IsAsked module_path folders slots m × IsFresh slots m
      pub cover : (m : ℕ) → IsAsked module_path folders slots m → IsFresh slots m → Has pending m ⊎ left m

    -- the first refusal; want of memory may come at any time
    abbrev pub ReachCause : UnitError → Type 0
    ReachCause (error.File at fault) = IsFirstRefusal module_path folders gives (error.File at fault)
    ReachCause (error.MixedNames path) = IsFirstRefusal module_path folders gives (error.MixedNames path)
    ReachCause (error.InternalUse at place) = IsFirstRefusal module_path folders gives (error.InternalUse at place)
    ReachCause (error.Cycle path) = ⊥
    ReachCause error.NoMemory = Unit {0}
