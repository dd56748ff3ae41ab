-- The levels of units.
-- Own.
use Rattle.std.specs.Prelude.{◌≡◌, ◌⊎◌, ◌<◌, ◌+◌, ℕ, List, Some, length, slice_index}
use Rattle.go_base.specs.Lists.{Has}
use Rattle.go_level_laws.specs.Levels.{AreLevels}
use Rattle.go_rules.specs.Names.{Named, value_at}
use Rattle.go_level_laws.specs.go_std_worlds.TwoModules.{sources_of}
use Rattle.go_units.specs.declared.unit_list.Units.{Units}

-- each known level is below this one
abbrev pub AreBelow : Named ℕ → ℕ → Type 0
AreBelow known count = (path : List ℕ) (level : ℕ) → value_at known path ≡ Some level → level < count

-- none of these paths is known, or the level is one more than that of one of them
abbrev pub IsLeastOver : Named ℕ → List (List ℕ) → ℕ → Type 0
IsLeastOver known paths level = (level ≡ 0) ⊎ ((path : List ℕ) × (k : ℕ) × Has paths path × (value_at known path ≡ Some k) × (level ≡ k + 1))

-- these are the levels of the units
pub record AreUnitLevels (units : Units) (levels : List ℕ) : Type 0 where
  pub many : length levels ≡ length units.packages
  pub are : AreLevels (sources_of units) (slice_index levels)
  pub few : (n : ℕ) → slice_index levels n < 4294967296
