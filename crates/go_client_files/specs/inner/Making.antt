-- What the functions do that make the files of a client's package, and what they are refused for once they are read.
use Rattle.std.specs.Prelude.{◌≡◌, ℕ, false, Option, Some, None, List, [], ◌∷◌, ◌++◌}
use Rattle.go_client_files.specs.ClientFiles.{AreClientFiles, AreOfOne}
use Rattle.go_client_files.specs.declared.parsed.ParsedFile.{ParsedFile}
use Rattle.go_client_files.specs.declared.uses.ClientFile.{ClientFile}
use Rattle.go_client_files.specs.declared.uses.ClientFiles.{ClientFiles}
use Rattle.go_model.specs.types.Terms.{client_path}
use Rattle.go_units.specs.PackageUses.{AreFree, IsFirstInternal}
use Rattle.go_units.specs.declared.folder.Folder.{Folder}
use Rattle.go_units.specs.declared.unit_error.UnitError.{UnitError}
use Rattle.go_units.specs.declared.unit_error.UnitError.TheVariants as error

-- a file was added, where there is one
abbrev pub AddsFile : Option ClientFile → ClientFiles → ClientFiles → Type 0
AddsFile None old new = (new.files ≡ old.files) × (new.blocks ≡ old.blocks)
AddsFile (Some f) old new = (new.files ≡ old.files ++ f.file ∷ []) × (new.blocks ≡ old.blocks ++ f.blocks ∷ [])

-- the package clause of the file has this name
abbrev pub IsNamedAs : List ℕ → ParsedFile → Type 0
IsNamedAs name x = x.source.outline.«package».text ≡ name

-- the folder of a client, as refusals name it
abbrev pub IsClientFolder : Folder → Type 0
IsClientFolder f = (f.path ≡ client_path) × (f.from_std ≡ false)

module _ (module_path : List ℕ) (folders : List Folder) (xs : List ParsedFile) where
  pub record IsAccepted (list : ClientFiles) : Type 0 where
    pub one : AreOfOne xs
    pub are : AreClientFiles module_path folders xs list
    pub free : AreFree client_path false list.files

  abbrev pub CheckCause : UnitError → Type 0
  CheckCause (error.File at f) = ⊥
  CheckCause (error.MixedNames path) = (client_path ≡ path) × (AreOfOne xs → ⊥)
  CheckCause (error.InternalUse at place) = (client_path ≡ at.path) × AreOfOne xs × (list : ClientFiles) × AreClientFiles module_path folders xs list × IsFirstInternal client_path false list.files at.file place
  CheckCause (error.Cycle path) = ⊥
  CheckCause error.NoMemory = Unit {0}
