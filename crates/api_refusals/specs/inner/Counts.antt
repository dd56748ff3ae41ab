-- What is counted of the bytes before an offset.
use Rattle.std.specs.Prelude.{◌≡◌, ◌≤◌, ℕ, List, length, take}
use Rattle.std.specs.List.{filter}
use Rattle.api_refusals.specs.Places.{is_newline, last_line}
use Rattle.api_refusals.specs.declared.places.Count.{Count}

-- the newlines among them, and the bytes behind the last one
pub record Counts (bytes : List ℕ) (c : Count) : Type 0 where
  pub newlines : c.newlines ≡ length (filter is_newline (take c.offset bytes))
  pub tail : c.tail ≡ length (last_line (take c.offset bytes))
  pub few : c.newlines ≤ c.offset
  pub short : c.tail ≤ c.offset
