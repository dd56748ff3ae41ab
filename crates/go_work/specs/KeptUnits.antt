-- The packages of which something is left out.
-- Own: words of the contracts.
use Rattle.std.specs.Prelude.{◌≡◌, ℕ, List, [], ◌∷◌, ◌++◌, map}
use Rattle.go_exposed.specs.SkippedValues.{all_skipped}
use Rattle.go_exposed.specs.SkippedWorlds.{AreSkipped}
use Rattle.go_exposed.specs.declared.skipped.Skipped.{Skipped}
use Rattle.go_units.specs.declared.unit.«Unit».{«Unit» as PackageUnit}
use Rattle.go_work.specs.Answers.{sources}
use Rattle.go_work.specs.declared.checked.SkippedUnit.{SkippedUnit}

-- a unit, where something is left out of it
abbrev pub kept_unit : PackageUnit → List Skipped → List SkippedUnit
kept_unit u [] = []
kept_unit u (x ∷ xs) = record { «unit» = u; skipped = x ∷ xs } ∷ []

-- of units, each of which stands beside what is left out of it, those where something is
abbrev pub kept_units : List PackageUnit → List (List Skipped) → List SkippedUnit
kept_units [] xss = []
kept_units (u ∷ us) [] = []
kept_units (u ∷ us) (xs ∷ xss) = kept_unit u xs ++ kept_units us xss

-- these are the units of which something is left out, with that
pub record AreKept (bits : ℕ) (us : List PackageUnit) (kept : List SkippedUnit) : Type 0 where
  pub skipped : List (List Skipped)
  pub skips : AreSkipped bits (sources us) (map all_skipped skipped)
  pub «is» : kept ≡ kept_units us skipped
