-- The first flags of two lists, joined.
use Rattle.std.specs.Prelude.{◌≡◌, ◌<◌, ◌&&◌, ℕ, Bool, List, length}
use Rattle.go_graphs.specs.Flags.{is_flagged}

-- as many flags as said, which are set where those of both are
pub record AreFirstJoined (left right : List Bool) (count : ℕ) (flags : List Bool) : Type 0 where
  pub size : length flags ≡ count
  pub exact : (n : ℕ) → n < count → is_flagged flags n ≡ (is_flagged left n && is_flagged right n)
