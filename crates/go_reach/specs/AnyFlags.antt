-- Flags of what is flagged in one of three.
-- Own: words on lists.
use Rattle.std.specs.Prelude.{◌≡◌, ◌<◌, ◌||◌, ℕ, Bool, List, length}
use Rattle.go_graphs.specs.Flags.{is_flagged}

pub record AreAny (first second third : List Bool) (count : ℕ) (flags : List Bool) : Type 0 where
  pub size : length flags ≡ count
  pub exact : (n : ℕ) → n < count → is_flagged flags n ≡ (is_flagged first n || (is_flagged second n || is_flagged third n))
