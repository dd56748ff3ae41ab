-- Packages that are typed together, with their world.
-- Own: words of the contracts.
use Rattle.std.specs.Prelude.{List, map}
use Rattle.api_shared_features.specs.declared.unit_world.UnitWorld.{UnitWorld}
use Rattle.go_exposed.specs.OfferedWorlds.{IsWorldOf}
use Rattle.go_sources.specs.UnitSources.{source_of}
use Rattle.go_taken_units.specs.go_taken_packages.InOrder.{HavePathsOfTheirOwn}
use Rattle.go_typings.specs.Sources.{PackageSource}
use Rattle.go_units.specs.declared.unit.«Unit».{«Unit» as PackageUnit}

-- the packages of units
abbrev pub sources : List PackageUnit → List PackageSource
sources units = map source_of units

-- the packages have paths of their own, and the world is theirs
pub record IsUnitWorld (w : UnitWorld) : Type 0 where
  pub own : HavePathsOfTheirOwn (sources w.units.now)
  pub world : IsWorldOf w.bits (sources w.units.now) w.world.now
