-- The numbers to which walks along rows lead from a set.
-- Own: graphs as lists.
use Rattle.std.specs.Prelude.{◌≡◌, ℕ, Bool, true, List}
use Rattle.go_base.specs.Lists.{Has}
use Rattle.go_graphs.specs.Walks.{row_of}

-- the number is one of the set, or stands in the row of one that is reached
pub data IsReached (rows : List (List ℕ)) (from : ℕ → Bool) : ℕ → Type 0 where
  reached_first : {n : ℕ} → from n ≡ true → IsReached rows from n
  reached_by : {n : ℕ} (m : ℕ) → IsReached rows from m → Has (row_of rows m) n → IsReached rows from n
