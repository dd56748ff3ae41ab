-- A search along rows: which numbers are flagged, and whose rows are still to be followed.
use Rattle.std.specs.Prelude.{◌≡◌, ◌⊎◌, ◌<◌, ℕ, Bool, true, List, [], ◌∷◌, ◌++◌, Option, None, Some, length}
use Rattle.go_base.specs.Lists.{Has}
use Rattle.go_graphs.specs.Flags.{is_flagged}
use Rattle.go_graphs.specs.Walks.{row_of}
use Rattle.go_reach.specs.Reached.{IsReached}

-- what was found is flagged, and each of it that wasn't flagged before is pending
pub record Meets (found : ℕ → Type 0) (old : List Bool) (before : List ℕ) (new : List Bool) (after : List ℕ) : Type 0 where
  pub kept : (n : ℕ) → is_flagged old n ≡ true → is_flagged new n ≡ true
  pub sound : (n : ℕ) → is_flagged new n ≡ true → (is_flagged old n ≡ true) ⊎ found n
  pub complete : (n : ℕ) → found n → n < length old → is_flagged new n ≡ true
  pub waits : (n : ℕ) → Has before n → Has after n
  pub listed : (n : ℕ) → is_flagged new n ≡ true → (is_flagged old n ≡ true) ⊎ Has after n
  pub flagged : (n : ℕ) → Has after n → Has before n ⊎ (is_flagged new n ≡ true)

-- the last number was taken, where there was one
abbrev pub Takes : List ℕ → List ℕ → Option ℕ → Type 0
Takes old new None = old ≡ []
Takes old new (Some n) = old ≡ new ++ n ∷ []

-- the flagged numbers are reached from those that were flagged first, and each is pending or has none in its row that isn't flagged
pub record AreMet (rows : List (List ℕ)) (first flags : List Bool) (pending : List ℕ) : Type 0 where
  pub size : length flags ≡ length first
  pub kept : (n : ℕ) → is_flagged first n ≡ true → is_flagged flags n ≡ true
  pub sound : (n : ℕ) → is_flagged flags n ≡ true → IsReached rows (is_flagged first) n
  pub flagged : (n : ℕ) → Has pending n → is_flagged flags n ≡ true
  pub followed : (m : ℕ) → is_flagged flags m ≡ true → Has pending m ⊎ ((n : ℕ) → Has (row_of rows m) n → n < length flags → is_flagged flags n ≡ true)
