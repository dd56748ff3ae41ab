-- Rows of numbers, and the walks along them: from a number to one in its row, and so on.
-- Own: graphs as lists.
use Rattle.std.specs.Prelude.{ℕ, List, [], ◌∷◌, get_or}
use Rattle.go_base.specs.Lists.{Has}

-- the row of a number
abbrev pub row_of : List (List ℕ) → ℕ → List ℕ
row_of rows n = get_or rows n []

-- a walk of zero or more steps leads from the number to one of these
pub data LeadsInto (rows : List (List ℕ)) (ends : List ℕ) : ℕ → Type 0 where
  is_end : {n : ℕ} → Has ends n → LeadsInto rows ends n
  leads_by : {n : ℕ} (m : ℕ) → Has (row_of rows n) m → LeadsInto rows ends m → LeadsInto rows ends n

-- a walk of zero or more steps leads from the first number to the second
abbrev pub LeadsTo : List (List ℕ) → ℕ → ℕ → Type 0
LeadsTo rows n m = LeadsInto rows (m ∷ []) n

-- in the second rows the number has one that leads back to it along the first
abbrev pub LeadsBack : List (List ℕ) → List (List ℕ) → ℕ → Type 0
LeadsBack rows starts n = (m : ℕ) × Has (row_of starts n) m × LeadsTo rows m n
