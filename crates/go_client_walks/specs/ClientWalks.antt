-- The folders that are read for a module with a client, one after another: those of the module in the order of their paths, and then always the one with the least path among those of the
-- standard library for which a package that is read asks, or the client. The client imports as a package of the module does.
-- Public source: Go specification, "Import declarations". Own: the order; that the client is read after the module's folders.
use Rattle.std.specs.Prelude.{◌≡◌, ◌<◌, ◌⊎◌, ℕ, false, Some, List, [], length, slice_set, Result, Ok, Err}
use Rattle.go_imports.specs.Gives.{Gives}
use Rattle.go_imports.specs.declared.package_files.SourceFile.{SourceFile}
use Rattle.go_client_walks.specs.declared.units.WalkedClient.{WalkedClient}
use Rattle.go_units.specs.Reached.{AreAccepted, ComesFirst, FilesAsk, IsAsked, IsFresh, IsRefusedFor, ReadFolders, is_std}
use Rattle.go_units.specs.UnitsOfModules.{AreUnits, GivesUnitFile, IsCycle, packages_in}
use Rattle.go_units.specs.declared.folder.Folder.{Folder}
use Rattle.go_units.specs.declared.package_uses.PackageFile.{PackageFile}
use Rattle.go_units.specs.declared.reader.Reading.{Reading}
use Rattle.go_units.specs.declared.reader.Reading.TheVariants as reading
use Rattle.go_units.specs.declared.unit_error.UnitError.{UnitError}
use Rattle.go_units.specs.declared.unit_error.UnitError.TheVariants as error

-- the files of the client, with the imports that they use
module _ (client : List PackageFile) (module_path : List ℕ) (folders : List Folder) where
  -- a package that is read asks for a folder, or the client does
  abbrev pub IsAskedWith : ReadFolders → ℕ → Type 0
  IsAskedWith slots m = IsAsked module_path folders slots m ⊎ FilesAsk module_path folders false client m

  -- the folder is to be read
  pub record IsWanted (slots : ReadFolders) (n : ℕ) : Type 0 where
    pub within : n < length folders
    pub why : (is_std folders n ≡ false) ⊎ IsAskedWith slots n

  -- the folder that is read next
  pub record IsNextFolder (slots : ReadFolders) (n : ℕ) : Type 0 where
    pub wanted : IsWanted slots n
    pub fresh : IsFresh slots n
    pub first : (m : ℕ) → IsWanted slots m → IsFresh slots m → ComesFirst module_path folders n m

  module _ (gives : ℕ → Reading → Type 0) where
    -- the folders that are read after some time
    pub data Walked : ReadFolders → Type 0 where
      start : {slots : ReadFolders} → length slots ≡ length folders → ((n : ℕ) → IsFresh slots n) → Walked slots
      next : {slots : ReadFolders} {n : ℕ} {sources : List SourceFile} {files : List PackageFile} → Walked slots → IsNextFolder slots n → gives n (reading.Files sources) → AreAccepted module_path folders n sources files → Walked (slice_set slots n (Some files))

    -- the first folder that is refused, in the order in which they are read
    abbrev pub IsFirstRefusal : UnitError → Type 0
    IsFirstRefusal e = (slots : ReadFolders) × Walked slots × (n : ℕ) × IsNextFolder slots n × IsRefusedFor module_path folders gives n e

    -- every folder that is to be read is, and none is refused
    pub record AllAreRead (slots : ReadFolders) : Type 0 where
      pub walked : Walked slots
      pub all : (n : ℕ) → IsWanted slots n → IsFresh slots n → ⊥

    -- the units of all packages and the files of the client, each with its imports, found or not; or the first refusal; want of memory may come at any time
    abbrev pub Answers : Result WalkedClient UnitError → Type 0
    Answers (Ok w) = (slots : ReadFolders) × AllAreRead slots × AreUnits module_path folders slots w.units.packages × Gives (GivesUnitFile module_path folders (packages_in slots) false) client w.files
    Answers (Err (error.File at fault)) = IsFirstRefusal (error.File at fault)
    Answers (Err (error.MixedNames path)) = IsFirstRefusal (error.MixedNames path)
    Answers (Err (error.InternalUse at place)) = IsFirstRefusal (error.InternalUse at place)
    Answers (Err (error.Cycle path)) = (slots : ReadFolders) × AllAreRead slots × IsCycle module_path folders slots path
    Answers (Err error.NoMemory) = Unit {0}

-- the folders of the module alone
module _ (module_path : List ℕ) (folders : List Folder) (gives : ℕ → Reading → Type 0) where
  -- all of them are read, and none is refused
  pub record ModuleIsRead (slots : ReadFolders) : Type 0 where
    pub walked : Walked [] module_path folders gives slots
    pub all : (n : ℕ) → n < length folders → is_std folders n ≡ false → IsFresh slots n → ⊥

  -- the first of them that is refused
  abbrev pub IsOwnRefusal : List PackageFile → UnitError → Type 0
  IsOwnRefusal client e = (slots : ReadFolders) × Walked client module_path folders gives slots × (n : ℕ) × IsNextFolder client module_path folders slots n × (is_std folders n ≡ false) × IsRefusedFor module_path folders gives n e

  abbrev pub ModuleAnswers : Result (Unit {0}) UnitError → Type 0
  ModuleAnswers (Ok done) = (slots : ReadFolders) × ModuleIsRead slots
  ModuleAnswers (Err (error.File at fault)) = IsOwnRefusal [] (error.File at fault)
  ModuleAnswers (Err (error.MixedNames path)) = IsOwnRefusal [] (error.MixedNames path)
  ModuleAnswers (Err (error.InternalUse at place)) = IsOwnRefusal [] (error.InternalUse at place)
  ModuleAnswers (Err (error.Cycle path)) = ⊥
  ModuleAnswers (Err error.NoMemory) = Unit {0}
