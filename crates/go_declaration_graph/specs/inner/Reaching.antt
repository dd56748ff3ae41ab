-- The numbers that stand in rows, and those to which other rows lead from them where it is told to what they lead.
-- Own: words of the contracts inside this crate.
use Rattle.std.specs.Prelude.{◌≡◌, ◌<◌, ℕ, Bool, true, List, length, take}
use Rattle.go_base.specs.Gathered.{gather}
use Rattle.go_base.specs.Lists.{Has}
use Rattle.go_graphs.specs.Flags.{is_flagged}
use Rattle.go_graphs.specs.Walks.{row_of}

-- the numbers in the rows, one row after another
abbrev pub numbers_in : List (List ℕ) → List ℕ
numbers_in rows = gather (λ (row : List ℕ). row) rows

module _ (starts : List (List ℕ)) where
  -- the number stands in one of the first rows, or in the row of a flagged one that is reached so
  pub data IsReachedBy (flags : List Bool) (rows : List (List ℕ)) : ℕ → Type 0 where
    named : {n : ℕ} (k : ℕ) → Has (row_of starts k) n → IsReachedBy flags rows n
    led : {n : ℕ} (k : ℕ) → IsReachedBy flags rows k → is_flagged flags k ≡ true → Has (row_of rows k) n → IsReachedBy flags rows n

  -- of the numbers below the count just those that are reached are flagged
  pub record AreReached (count : ℕ) (flags : List Bool) (rows : List (List ℕ)) : Type 0 where
    pub size : length flags ≡ count
    pub sound : (n : ℕ) → is_flagged flags n ≡ true → IsReachedBy flags rows n
    pub first : (k n : ℕ) → Has (row_of starts k) n → n < count → is_flagged flags n ≡ true
    pub next : (k n : ℕ) → is_flagged flags k ≡ true → Has (row_of rows k) n → n < count → is_flagged flags n ≡ true

  -- the pending numbers are just those in the first rows and in the rows of flagged ones, and so many of them are flagged
  pub record ArePending (count : ℕ) (pending : List ℕ) (at : ℕ) (flags : List Bool) (rows : List (List ℕ)) : Type 0 where
    pub size : length flags ≡ count
    pub row_count : length rows ≡ count
    pub sound : (n : ℕ) → Has pending n → IsReachedBy flags rows n
    pub first : (k n : ℕ) → Has (row_of starts k) n → Has pending n
    pub next : (k n : ℕ) → is_flagged flags k ≡ true → Has (row_of rows k) n → Has pending n
    pub known : (n : ℕ) → is_flagged flags n ≡ true → Has pending n
    pub told : (n : ℕ) → Has (take at pending) n → n < count → is_flagged flags n ≡ true
