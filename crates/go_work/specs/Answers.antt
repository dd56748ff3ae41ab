-- What the work on a tree's packages answers.
-- Own: words of the contracts.
use Rattle.std.specs.Prelude.{◌≡◌, ℕ, List, map, Some, Result, Ok, Err, slice_get}
use Rattle.go_check.specs.Answers.{refusal_of}
use Rattle.go_check.specs.declared.error.CheckError.{CheckError}
use Rattle.go_exposed.specs.OfferedWorlds.{IsFirstRefused, IsWorldOf}
use Rattle.go_sources.specs.UnitSources.{source_of}
use Rattle.go_typings.specs.Refusals.{Refusal}
use Rattle.go_typings.specs.Sources.{PackageSource}
use Rattle.go_units.specs.declared.unit.«Unit».{«Unit» as PackageUnit}
use Rattle.go_work.specs.declared.checked.CheckedWorld.{CheckedWorld}
use Rattle.go_work.specs.declared.error.WorkError.{WorkError}
use Rattle.go_work.specs.declared.error.WorkError.TheVariants as error

-- the packages of units
abbrev pub sources : List PackageUnit → List PackageSource
sources units = map source_of units

-- the package of this number is refused first, and for what the error says
abbrev pub IsRefusedFirst : ℕ → List PackageSource → ℕ → CheckError → Type 0
IsRefusedFirst bits us n e = (r : Refusal) × (refusal_of e ≡ Some r) × IsFirstRefused bits us n r

abbrev pub Refuses : ℕ → List PackageSource → WorkError → Type 0
Refuses bits us (error.Refused n u e) = IsRefusedFirst bits us n e
Refuses bits us error.NoMemory = Unit {0}

-- their world, or which one is refused first and why; want of memory may come at any time
abbrev pub Answers : ℕ → List PackageSource → Result CheckedWorld WorkError → Type 0
Answers bits us (Ok checked) = IsWorldOf bits us checked.world
Answers bits us (Err e) = Refuses bits us e

-- the refused unit that is handed back is the one of its number
abbrev pub HandsBack : List PackageUnit → WorkError → Type 0
HandsBack us (error.Refused n u e) = slice_get us n ≡ Some u
HandsBack us error.NoMemory = Unit {0}
