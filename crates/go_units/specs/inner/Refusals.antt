-- What the functions answer that check the files of a folder.
use Rattle.std.specs.Prelude.{◌≡◌, ℕ, List}
use Rattle.go_units.specs.PackageUses.{IsFirstInternal}
use Rattle.go_units.specs.declared.folder.Folder.{Folder}
use Rattle.go_units.specs.declared.package_uses.PackageFile.{PackageFile}
use Rattle.go_units.specs.declared.reader.FileFault.{FileFault}
use Rattle.go_units.specs.declared.unit_error.UnitError.{UnitError}
use Rattle.go_units.specs.declared.unit_error.UnitError.TheVariants as error

abbrev pub IsMixed : Folder → UnitError → Type 0
IsMixed folder (error.File at fault) = ⊥
IsMixed folder (error.MixedNames path) = folder.path ≡ path
IsMixed folder (error.InternalUse at place) = ⊥
IsMixed folder (error.Cycle path) = ⊥
IsMixed folder error.NoMemory = Unit {0}

abbrev pub IsRefused : Folder → List ℕ → FileFault → UnitError → Type 0
IsRefused folder file fault (error.File at f) = (folder.path ≡ at.path) × (file ≡ at.file) × (fault ≡ f)
IsRefused folder file fault (error.MixedNames path) = ⊥
IsRefused folder file fault (error.InternalUse at place) = ⊥
IsRefused folder file fault (error.Cycle path) = ⊥
IsRefused folder file fault error.NoMemory = Unit {0}

abbrev pub IsInternal : Folder → List ℕ → ℕ → UnitError → Type 0
IsInternal folder file place (error.File at fault) = ⊥
IsInternal folder file place (error.MixedNames path) = ⊥
IsInternal folder file place (error.InternalUse at p) = (folder.path ≡ at.path) × (file ≡ at.file) × (place ≡ p)
IsInternal folder file place (error.Cycle path) = ⊥
IsInternal folder file place error.NoMemory = Unit {0}

abbrev pub InternalCause : Folder → List PackageFile → UnitError → Type 0
InternalCause folder files (error.File at fault) = ⊥
InternalCause folder files (error.MixedNames path) = ⊥
InternalCause folder files (error.InternalUse at place) = (folder.path ≡ at.path) × IsFirstInternal folder.path folder.from_std files at.file place
InternalCause folder files (error.Cycle path) = ⊥
InternalCause folder files error.NoMemory = Unit {0}
