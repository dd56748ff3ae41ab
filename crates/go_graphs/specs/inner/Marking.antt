-- Flagging numbers by their rows until nothing changes, whatever the rule is.
use Rattle.std.specs.Prelude.{◌≡◌, ◌+◌, ◌<◌, ℕ, Bool, true, false, if◌then◌else◌, List, [], ◌∷◌, length, slice_set}
use Rattle.go_graphs.specs.Flags.{is_flagged}
use Rattle.go_graphs.specs.Walks.{row_of}

-- how many aren't flagged
abbrev pub unflagged : List Bool → ℕ
unflagged [] = 0
unflagged (b ∷ bs) = (if b then 0 else 1) + unflagged bs

module _ (why : List Bool → List ℕ → Type 0) (rows : List (List ℕ)) where
  -- one more number is flagged, since its row lets it be
  pub record Raises (old : List Bool) (n : ℕ) (new : List Bool) : Type 0 where
    pub within : n < length old
    pub unset : is_flagged old n ≡ false
    pub cause : why old (row_of rows n)
    pub is : new ≡ slice_set old n true

  -- the row of the number doesn't let it be flagged, where it isn't
  abbrev pub IsClosedAt : List Bool → ℕ → Type 0
  IsClosedAt flags n = n < length flags → is_flagged flags n ≡ false → why flags (row_of rows n) → ⊥

  -- what an attempt does, by its answer
  abbrev pub Applies : List Bool → ℕ → List Bool → Bool → Type 0
  Applies old n new true = Raises old n new
  Applies old n new false = (new ≡ old) × IsClosedAt old n

  -- numbers were flagged, one at a time
  pub data Follows (old : List Bool) : List Bool → Type 0 where
    follows_itself : Follows old old
    follows_raised : {a b : List Bool} (n : ℕ) → Follows old a → Raises a n b → Follows old b

  -- the first numbers were tried: more are flagged, or nothing has changed and none of these may be
  abbrev pub Passed : List Bool → ℕ → List Bool → Bool → Type 0
  Passed old n new true = unflagged new < unflagged old
  Passed old n new false = (new ≡ old) × ((m : ℕ) → m < n → IsClosedAt old m)

  -- numbers were flagged until none was left to flag
  pub record IsClosure (old new : List Bool) : Type 0 where
    pub follows : Follows old new
    pub closed : (n : ℕ) → IsClosedAt new n
