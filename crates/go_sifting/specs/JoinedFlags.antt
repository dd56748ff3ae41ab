-- Flags that are joined, number by number.
-- Own: words on lists.
use Rattle.std.specs.Prelude.{◌≡◌, ◌&&◌, ℕ, Bool, List, length}
use Rattle.go_graphs.specs.Flags.{is_flagged}

-- as many flags as the first, of which those are set that are set in both
pub record AreJoined (left right flags : List Bool) : Type 0 where
  pub size : length flags ≡ length left
  pub exact : (n : ℕ) → is_flagged flags n ≡ (is_flagged left n && is_flagged right n)
