use Rattle.std.proofs.Common.{◌≡◌, take}
use Rattle.api_shared_features.specs.UnitWorlds.{sources}
use Rattle.go_taken_units.specs.go_taken_packages.TakenPaths.{AreTaken}
use Rattle.go_taken_units.specs.go_taken_packages.ToldPackages.{is_among}
use Rattle.api_shared_features.proofs.after.taken_units.Given as goal

abbrev pub invariant-loop-unit : goal.invariant-loop-unit
invariant-loop-unit l = AreTaken (sources l.earlier) (sources (take l.unit-index l.units)) (is_among l.taken.taken.keys) × (l.taken.earlier.now ≡ l.earlier)
