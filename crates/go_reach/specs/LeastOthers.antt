-- The least flagged number of a row that isn't its own.
-- Own: words on lists.
use Rattle.std.specs.Prelude.{◌≡◌, ◌≢◌, ◌<◌, ◌==◌, ℕ, Bool, true, List, Option, None, Some, nat_lt, if◌then◌else◌}
use Rattle.go_base.specs.Lists.{Has}
use Rattle.go_graphs.specs.Flags.{is_flagged}

-- it stands in the row, is flagged and is another one
pub record IsOther (row : List ℕ) (flags : List Bool) (n m : ℕ) : Type 0 where
  pub other : m ≢ n
  pub has : Has row m
  pub flagged : is_flagged flags m ≡ true

-- the least such number, where there is one
abbrev pub IsLeastOther : List ℕ → List Bool → ℕ → Option ℕ → Type 0
IsLeastOther row flags n None = (m : ℕ) → IsOther row flags n m → ⊥
IsLeastOther row flags n (Some m) = IsOther row flags n m × ((k : ℕ) → k < m → IsOther row flags n k → ⊥)

abbrev pub lesser : Option ℕ → ℕ → Option ℕ
lesser None k = Some k
lesser (Some b) k = if nat_lt k b then Some k else Some b

-- the least number so far, where one more may count
abbrev pub with_next : List Bool → ℕ → Option ℕ → ℕ → Option ℕ
with_next flags n least k = if k == n then least else (if is_flagged flags k then lesser least k else least)
