-- Packages that were typed, which are kept for others that may take them over.
-- Own: words of the contracts.
use Rattle.std.specs.Prelude.{◌≡◌, ◌⊎◌, ℕ, List, map}
use Rattle.go_exposed.specs.OfferedWorlds.{IsWorldOf}
use Rattle.go_exposed.specs.SkippedValues.{all_skipped}
use Rattle.go_exposed.specs.SkippedWorlds.{AreSkipped}
use Rattle.go_taken_units.specs.go_taken_packages.InOrder.{HavePathsOfTheirOwn}
use Rattle.go_work.specs.Answers.{sources}
use Rattle.go_work.specs.declared.typed.TypedUnits.{TypedUnits}

-- the world is that of the packages, and of each is left out what stands at its number
pub record AreTypedUnits (t : TypedUnits) : Type 0 where
  pub width : (t.bits ≡ 32) ⊎ (t.bits ≡ 64)
  pub own : HavePathsOfTheirOwn (sources t.units)
  pub world : IsWorldOf t.bits (sources t.units) t.world
  pub skipped : AreSkipped t.bits (sources t.units) (map all_skipped t.skipped)
