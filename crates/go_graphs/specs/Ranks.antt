-- Numbers from which no walk is endless.
-- Own: graphs as lists.
use Rattle.std.specs.Prelude.{◌≡◌, ◌<◌, ℕ, suc, Bool, true, List}
use Rattle.go_base.specs.Lists.{Has}
use Rattle.go_graphs.specs.Walks.{row_of}

-- all in its row have a rank
pub data HasRank (rows : List (List ℕ)) : ℕ → Type 0 where
  has_rank : {n : ℕ} → ((m : ℕ) → Has (row_of rows n) m → HasRank rows m) → HasRank rows n

-- for the members of a set the number of each is more than those of all in its row
abbrev pub FallsAlong : List (List ℕ) → (ℕ → Bool) → (ℕ → ℕ) → Type 0
FallsAlong rows S rank = (n m : ℕ) → S n ≡ true → Has (row_of rows n) m → rank m < rank n

-- an endless walk
abbrev pub IsWalk : List (List ℕ) → (ℕ → ℕ) → Type 0
IsWalk rows at = (k : ℕ) → Has (row_of rows (at k)) (at (suc k))
