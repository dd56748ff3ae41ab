-- What the search for a package on a cycle keeps: levels that never rise along needs, and what is reached on one of them.
use Rattle.std.specs.Prelude.{◌≤◌, ℕ, nat_eq, cond, List, [], ◌∷◌, get_or, Option, Some, None}
use Rattle.go_base.specs.Lists.{Has}
use Rattle.go_imports.specs.Orders.{needs_of, IsOnCycle, IsLeastOnCycle}

-- the nodes of a level
abbrev pub at_level : List ℕ → ℕ → List ℕ → List ℕ
at_level levels level [] = []
at_level levels level (x ∷ xs) = cond (nat_eq (get_or levels x 0) level) (x ∷ at_level levels level xs) (at_level levels level xs)

pub data Reached (next : ℕ → List ℕ) (seeds : List ℕ) : ℕ → Type 0 where
  seed : (n : ℕ) → Has seeds n → Reached next seeds n
  edge : (m n : ℕ) → Reached next seeds m → Has (next m) n → Reached next seeds n

-- levels never rise along needs
abbrev pub Falls : List (List ℕ) → List ℕ → Type 0
Falls graph levels = (m n : ℕ) → Has (needs_of graph m) n → get_or levels n 0 ≤ get_or levels m 0

-- the least package on a cycle, or that there is none
abbrev pub LeastOrNone : List (List ℕ) → Option ℕ → Type 0
LeastOrNone graph (Some n) = IsLeastOnCycle graph n
LeastOrNone graph None = (n : ℕ) → IsOnCycle graph n → ⊥
