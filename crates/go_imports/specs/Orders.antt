-- The canonical order of packages that need each other, and what stands on a cycle. A package is its number; where the numbers follow the
-- paths, the least number is the least path.
-- Public source: Go specification, "Import declarations" (a package may not import itself, directly or indirectly) and "Package initialization"
-- (a package is initialized after those that it imports, the next one being the first by its path that is ready).
use Rattle.std.specs.Prelude.{◌<◌, ◌≤◌, ◌++◌, ℕ, List, [], ◌∷◌, length, get_or}
use Rattle.go_base.specs.Lists.{Has}

-- the packages that a package needs
abbrev pub needs_of : List (List ℕ) → ℕ → List ℕ
needs_of graph n = get_or graph n []

-- each package that is needed is there
abbrev pub IsGraph : List (List ℕ) → Type 0
IsGraph graph = (n m : ℕ) → Has (needs_of graph n) m → m < length graph

module _ (graph : List (List ℕ)) where
  -- the package doesn't stand yet, and all that it needs does
  pub record IsReady (standing : List ℕ) (n : ℕ) : Type 0 where
    pub is : n < length graph
    pub fresh : Has standing n → ⊥
    pub met : (m : ℕ) → Has (needs_of graph n) m → Has standing m

  -- the least package that is ready
  pub record IsNext (standing : List ℕ) (n : ℕ) : Type 0 where
    pub ready : IsReady standing n
    pub least : (m : ℕ) → IsReady standing m → n ≤ m

  -- packages in canonical order: the next one is always the least that is ready
  pub data IsOrder : List ℕ → Type 0 where
    none : IsOrder []
    next : {standing : List ℕ} {n : ℕ} → IsOrder standing → IsNext standing n → IsOrder (standing ++ n ∷ [])

  -- all packages in canonical order
  pub record IsCanonical (order : List ℕ) : Type 0 where
    pub ordered : IsOrder order
    pub all : (n : ℕ) → n < length graph → Has order n

  -- the first package needs the second, directly or through others
  pub data LeadsTo : ℕ → ℕ → Type 0 where
    directly : {m n : ℕ} → Has (needs_of graph m) n → LeadsTo m n
    through : {k m n : ℕ} → Has (needs_of graph k) m → LeadsTo m n → LeadsTo k n

  -- the package needs itself
  abbrev pub IsOnCycle : ℕ → Type 0
  IsOnCycle n = LeadsTo n n

  -- the least package on a cycle
  pub record IsLeastOnCycle (n : ℕ) : Type 0 where
    pub on : IsOnCycle n
    pub least : (m : ℕ) → IsOnCycle m → n ≤ m
