use Rattle.std.proofs.Common.{◌≡◌, ◌<◌, ◌≤◌, ℕ, List, Some, take}
use Rattle.go_base.specs.Lists.{Has}
use Rattle.go_rules.specs.Names.{value_at}
use Rattle.go_levels.specs.UnitLevels.{IsLeastOver}
use Rattle.go_levels.proofs.levels.level_above.Given as goal

abbrev pub invariant-loop-path : goal.invariant-loop-path
invariant-loop-path l = record {
  above : (path : List ℕ) (level : ℕ) → Has (take l.path-index l.paths) path → value_at l.known path ≡ Some level → level < l.level;
  least : IsLeastOver l.known (take l.path-index l.paths) l.level;
  within : l.level ≤ l.count;
}
