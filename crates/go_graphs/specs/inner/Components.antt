-- Levels of numbers by which it is told whether one leads to another.
use Rattle.std.specs.Prelude.{◌≡◌, ◌<◌, ◌≤◌, ℕ, List, length, get_or}
use Rattle.go_base.specs.Lists.{Has}
use Rattle.go_graphs.specs.Walks.{LeadsTo, row_of}

-- rows turned round: each of their steps is one of the first rows backwards
pub record TurnsRound (rows turned : List (List ℕ)) : Type 0 where
  pub size : length turned ≡ length rows
  pub step : (n m : ℕ) → Has (row_of turned n) m → Has (row_of rows m) n

-- one of these leads to the number
abbrev pub IsLedTo : List (List ℕ) → List ℕ → ℕ → Type 0
IsLedTo rows starts n = (r : ℕ) × Has starts r × LeadsTo rows r n

abbrev pub level_of : List ℕ → ℕ → ℕ
level_of levels n = get_or levels n 0

module _ (rows : List (List ℕ)) (levels : List ℕ) where
  -- no row has a number of a higher level
  abbrev pub NeverRises : Type 0
  NeverRises = (n m : ℕ) → Has (row_of rows n) m → level_of levels m ≤ level_of levels n

  -- each number leads to all of its level
  abbrev pub LeadsWithin : Type 0
  LeadsWithin = (n m : ℕ) → n < length rows → m < length rows → level_of levels n ≡ level_of levels m → LeadsTo rows n m

  -- the levels tell
  pub record AreComponents : Type 0 where
    pub never_rises : NeverRises
    pub leads_within : LeadsWithin

  -- rows of which no step leaves a level
  pub record StaysWithin (inner : List (List ℕ)) : Type 0 where
    pub size : length inner ≡ length rows
    pub step : (n m : ℕ) → Has (row_of inner n) m → Has (row_of rows n) m × (level_of levels m ≡ level_of levels n)

  -- one number of each level, by level
  pub record AreRoots (by_level : List ℕ) (roots : List ℕ) : Type 0 where
    pub below : (n : ℕ) → Has roots n → n < length rows
    pub root : (n : ℕ) → Has roots n → get_or by_level (level_of levels n) 0 ≡ n
