-- The folders that are read for the packages of a module, one after another: those of the module in the order of their paths, then always the one with the least path
-- among those of the standard library for which a used import asks.
-- Public source: Go specification, "Import declarations". Own: the order.
use Rattle.std.specs.Prelude.{◌≡◌, ◌<◌, ◌≤◌, ◌⊎◌, ℕ, Bool, true, false, Option, Some, None, List, length, get_or, slice_set}
use Rattle.go_base.specs.Lists.{Has}
use Rattle.go_imports.specs.PackageFiles.{AreOfOnePackage}
use Rattle.go_imports.specs.declared.package_files.SourceFile.{SourceFile}
use Rattle.go_imports.specs.declared.used_imports.NamedImport.{NamedImport}
use Rattle.go_units.specs.Folders.{folder_of, AsksFor}
use Rattle.go_units.specs.PackageUses.{ArePackageFiles, AreFree, IsFirstInternal}
use Rattle.go_units.specs.declared.folder.Folder.{Folder}
use Rattle.go_units.specs.declared.package_uses.PackageFile.{PackageFile}
use Rattle.go_units.specs.declared.reader.Reading.{Reading}
use Rattle.go_units.specs.declared.reader.Reading.TheVariants as reading
use Rattle.go_units.specs.declared.unit_error.UnitError.{UnitError}
use Rattle.go_units.specs.declared.unit_error.UnitError.TheVariants as error

-- the files of the package in each folder that is read
abbrev pub ReadFolders : Type 0
ReadFolders = List (Option (List PackageFile))

abbrev pub slot : ReadFolders → ℕ → Option (List PackageFile)
slot slots n = get_or slots n None

-- the folder isn't read yet
abbrev pub IsFresh : ReadFolders → ℕ → Type 0
IsFresh slots n = slot slots n ≡ None

abbrev pub is_std : List Folder → ℕ → Bool
is_std folders n = (folder_of folders n).from_std

module _ (module_path : List ℕ) (folders : List Folder) where
  -- a file of a package asks for a folder by an import that it uses
  abbrev pub FileAsks : Bool → PackageFile → ℕ → Type 0
  FileAsks from_std f m = (u : NamedImport) × Has f.uses u × AsksFor module_path folders from_std u.path m

  abbrev pub FilesAsk : Bool → List PackageFile → ℕ → Type 0
  FilesAsk from_std files m = (f : PackageFile) × Has files f × FileAsks from_std f m

  -- a package that is read asks for a folder
  abbrev pub IsAsked : ReadFolders → ℕ → Type 0
  IsAsked slots m = (n : ℕ) × (files : List PackageFile) × (slot slots n ≡ Some files) × FilesAsk (is_std folders n) files m

  -- the folder is to be read
  pub record IsWanted (slots : ReadFolders) (n : ℕ) : Type 0 where
    pub within : n < length folders
    pub why : (is_std folders n ≡ false) ⊎ IsAsked slots n

  -- the module's folders come before those of the standard library, and among each of them the least path
  abbrev pub ComesFirst : ℕ → ℕ → Type 0
  ComesFirst n m = ((is_std folders n ≡ false) × (is_std folders m ≡ true)) ⊎ ((is_std folders n ≡ is_std folders m) × (n ≤ m))

  -- the folder that is read next
  pub record IsNextFolder (slots : ReadFolders) (n : ℕ) : Type 0 where
    pub wanted : IsWanted slots n
    pub fresh : IsFresh slots n
    pub first : (m : ℕ) → IsWanted slots m → IsFresh slots m → ComesFirst n m

  -- the files of a folder give these to its package, and nothing is refused
  pub record AreAccepted (n : ℕ) (sources : List SourceFile) (files : List PackageFile) : Type 0 where
    pub one : AreOfOnePackage sources
    pub given : ArePackageFiles module_path folders (is_std folders n) sources files
    pub free : AreFree (folder_of folders n).path (is_std folders n) files

  -- why the files of a folder are refused, once they are read: first for their names, and then for an import; want of memory may come at any time
  abbrev pub AreRefused : ℕ → List SourceFile → UnitError → Type 0
  AreRefused n sources (error.File at fault) = ⊥
  AreRefused n sources (error.MixedNames path) = ((folder_of folders n).path ≡ path) × (AreOfOnePackage sources → ⊥)
  AreRefused n sources (error.InternalUse at place) =
      ((folder_of folders n).path ≡ at.path) × AreOfOnePackage sources
      × (files : List PackageFile) × ArePackageFiles module_path folders (is_std folders n) sources files × IsFirstInternal (folder_of folders n).path (is_std folders n) files at.file place
  AreRefused n sources (error.Cycle path) = ⊥
  AreRefused n sources error.NoMemory = Unit {0}

  module _ (gives : ℕ → Reading → Type 0) where
    -- the folders that are read after some time
    pub data Walked : ReadFolders → Type 0 where
      start : {slots : ReadFolders} → length slots ≡ length folders → ((n : ℕ) → IsFresh slots n) → Walked slots
      next : {slots : ReadFolders} {n : ℕ} {sources : List SourceFile} {files : List PackageFile} → Walked slots → IsNextFolder slots n → gives n (reading.Files sources) → AreAccepted n sources files → Walked (slice_set slots n (Some files))

    -- why a folder is refused: first a file of it, and then all of them together
    abbrev pub IsRefusedFor : ℕ → UnitError → Type 0
    IsRefusedFor n (error.File at fault) = ((folder_of folders n).path ≡ at.path) × gives n (reading.Refused at.file fault)
    IsRefusedFor n (error.MixedNames path) = (sources : List SourceFile) × gives n (reading.Files sources) × AreRefused n sources (error.MixedNames path)
    IsRefusedFor n (error.InternalUse at place) = (sources : List SourceFile) × gives n (reading.Files sources) × AreRefused n sources (error.InternalUse at place)
    IsRefusedFor n (error.Cycle path) = ⊥
    IsRefusedFor n error.NoMemory = Unit {0}

    -- the first folder that is refused, in the order in which they are read
    abbrev pub IsFirstRefusal : UnitError → Type 0
    IsFirstRefusal e = (slots : ReadFolders) × Walked slots × (n : ℕ) × IsNextFolder slots n × IsRefusedFor n e

    -- every folder that is to be read is, and none is refused
    pub record AllAreRead (slots : ReadFolders) : Type 0 where
      pub walked : Walked slots
      pub all : (n : ℕ) → IsWanted slots n → IsFresh slots n → ⊥
