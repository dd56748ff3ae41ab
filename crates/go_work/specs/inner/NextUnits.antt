-- What the next unit makes of the world of those before it.
use Rattle.std.specs.Prelude.{◌≡◌, ℕ, List, [], ◌∷◌, ◌++◌}
use Rattle.go_check.specs.Answers.{IsRefusedAs, refusal_of}
use Rattle.go_check.specs.declared.error.CheckError.{CheckError}
use Rattle.go_check.specs.declared.error.CheckError.TheVariants as check
use Rattle.go_exposed.specs.OfferedPackages.{IsOfferedAs}
use Rattle.go_exposed.specs.SkippedValues.{all_skipped}
use Rattle.go_exposed.specs.SkippedWorlds.{IsSkipped}
use Rattle.go_exposed.specs.declared.skipped.Skipped.{Skipped}
use Rattle.go_model.specs.declared.types.package.Package.{Package}
use Rattle.go_model.specs.worlds.Worlds.{Packages, with_package}
use Rattle.go_sources.specs.UnitSources.{source_of}
use Rattle.go_typings.specs.PackageWorlds.{AreTyped, is_public, no_packages, over, typed, with_outcome}
use Rattle.go_typings.specs.Sources.{PackageSource}
use Rattle.go_units.specs.declared.unit.«Unit».{«Unit» as PackageUnit}
use Rattle.go_work.specs.Answers.{sources}
use Rattle.go_work.specs.KeptUnits.{kept_unit, kept_units}
use Rattle.go_work.specs.declared.checked.CheckedWorld.{CheckedWorld}
use Rattle.go_work.specs.declared.error.WorkError.{WorkError}
use Rattle.go_work.specs.declared.error.WorkError.TheVariants as error

-- the error of a unit of this number
abbrev pub error_at : ℕ → PackageUnit → CheckError → WorkError
error_at n u check.NoMemory = error.NoMemory
error_at n u e = error.Refused n u e

-- the world with the package as which the unit is offered over it, and the units of which something is left out with this one, where something is
pub record IsNext (bits : ℕ) (u : PackageUnit) (old new : CheckedWorld) : Type 0 where
  pub «package» : Package
  pub left_out : List Skipped
  pub offered : IsOfferedAs (over bits old.world) (source_of u) «package»
  pub skipped : IsSkipped (over bits old.world) (source_of u) (all_skipped left_out)
  pub world : new.world ≡ with_package old.world «package» (is_public (source_of u))
  pub kept : new.skipped ≡ old.skipped ++ kept_unit u left_out

-- units that are offered in turn, each over those before it, with what is left out of each
pub data Offer (bits : ℕ) : Packages → List PackageSource → List (List Skipped) → Packages → Type 0 where
  offer_none : {w : Packages} → Offer bits w [] [] w
  offer_more : {w v : Packages} {u : PackageSource} {us : List PackageSource} {xs : List Skipped} {xss : List (List Skipped)} (p : Package) → AreTyped w u → IsOfferedAs (over bits w) u p → IsSkipped (over bits w) u (all_skipped xs)
      → Offer bits (with_outcome w u (typed p)) us xss v → Offer bits w (u ∷ us) (xs ∷ xss) v

-- what the units make that were taken so far
pub record AreTaken (bits : ℕ) (us : List PackageUnit) (checked : CheckedWorld) : Type 0 where
  pub left_out : List (List Skipped)
  pub offer : Offer bits no_packages (sources us) left_out checked.world
  pub kept : checked.skipped ≡ kept_units us left_out

-- the unit of this number is refused over the world, for what the error says; want of memory may come at any time
abbrev pub IsErrorOf : ℕ → PackageUnit → ℕ → Packages → WorkError → Type 0
IsErrorOf bits u n w r = (e : CheckError) × IsRefusedAs (over bits w) (source_of u) (refusal_of e) × (r ≡ error_at n u e)
