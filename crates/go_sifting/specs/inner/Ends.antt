-- Which declarations are lost by themselves, told by flags.
use Rattle.std.specs.Prelude.{◌≡◌, ◌<◌, ◌↔◌, ◌||◌, not, ℕ, Bool, true, List}
use Rattle.go_base.specs.Lists.{Has}
use Rattle.go_graphs.specs.Flags.{is_flagged}

module _ (standing ranked back : List Bool) where
  -- it doesn't stand, has no rank, or leads back from one of its lengths
  abbrev pub fails : ℕ → Bool
  fails n = not (is_flagged standing n) || (not (is_flagged ranked n) || is_flagged back n)

  -- just those of the first numbers that fail
  abbrev pub AreEnds : ℕ → List ℕ → Type 0
  AreEnds count ends = (n : ℕ) → Has ends n ↔ ((n < count) × (fails n ≡ true))
