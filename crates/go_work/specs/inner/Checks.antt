-- What the check of a package finds, where memory doesn't lack.
use Rattle.std.specs.Prelude.{◌≡◌, ℕ, List, Some, Result, Ok, Err}
use Rattle.go_check.specs.Answers.{refusal_of}
use Rattle.go_check.specs.declared.checked.CheckedPackage.{CheckedPackage}
use Rattle.go_check.specs.declared.error.CheckError.{CheckError}
use Rattle.go_exposed.specs.OfferedPackages.{IsOfferedAs}
use Rattle.go_exposed.specs.Refusals.{IsRefused}
use Rattle.go_exposed.specs.SkippedValues.{all_skipped}
use Rattle.go_exposed.specs.SkippedWorlds.{IsSkipped}
use Rattle.go_model.specs.worlds.Worlds.{Packages}
use Rattle.go_sources.specs.UnitSources.{source_of}
use Rattle.go_typings.specs.PackageWorlds.{over}
use Rattle.go_typings.specs.Refusals.{Refusal}
use Rattle.go_typings.specs.Sources.{PackageSource, Setting}
use Rattle.go_units.specs.declared.unit.«Unit».{«Unit» as PackageUnit}
use Rattle.go_work.specs.declared.rows.Row.{Row}
use Rattle.go_work.specs.inner.Rows.{row_unit}

-- it is offered with this left out, or refused
abbrev pub Checks : Setting → PackageSource → Result CheckedPackage CheckError → Type 0
Checks s u (Ok c) = IsOfferedAs s u c.«package» × IsSkipped s u (all_skipped c.skipped)
Checks s u (Err e) = (r : Refusal) × (refusal_of e ≡ Some r) × IsRefused s u r

-- so it is with the package of a row
abbrev pub ChecksAt : ℕ → Packages → List Row → ℕ → Result CheckedPackage CheckError → Type 0
ChecksAt bits w rows n found = (u : PackageUnit) → row_unit rows n ≡ Some u → Checks (over bits w) (source_of u) found
