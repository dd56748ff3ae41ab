use Rattle.std.proofs.Common.{◌≡◌}
use Rattle.go_levels.proofs.LevelSteps.{HaveLevels}
use Rattle.go_levels.proofs.levels.levels.Given as goal

abbrev pub invariant-loop-unit : goal.invariant-loop-unit
invariant-loop-unit l = record {
  have : HaveLevels l.all l.unit-index l.known l.levels;
  count : l.count ≡ l.unit-index;
}
