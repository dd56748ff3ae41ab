-- A table of results: a word and a slot for each job, and what each worker knows of them.
-- Own.
use Rattle.std.specs.Prelude.{◌≡◌, ◌<◌, ◌≤◌, ◌⊎◌, ℕ, List, [], ◌∷◌, ◌++◌, length, Option, Some, None, slice_index}
use mathlib.Core.Option.{some}
use lib.ListN.{get_elem?}
use Rattle.atomic_table.specs.Table.{State, Me, Step}
use Rattle.go_base.specs.Lists.{Has, Once}
use Rattle.work_sharing.specs.declared.rule.View.{View}

-- of a worker that claims nothing yet
abbrev pub empty_view : View
empty_view = record { claimed = []; filled = []; seen = [] }

-- what both know together
abbrev pub joined : View → View → View
joined v w = record { claimed = v.claimed ++ w.claimed; filled = v.filled ++ w.filled; seen = v.seen ++ w.seen }

abbrev pub with_claimed : View → ℕ → View
with_claimed v j = record { claimed = j ∷ v.claimed; filled = v.filled; seen = v.seen }

abbrev pub with_seen : View → ℕ → View
with_seen v j = record { claimed = v.claimed; filled = v.filled; seen = j ∷ v.seen }

abbrev pub with_filled : View → ℕ → View
with_filled v j = record { claimed = v.claimed; filled = j ∷ v.filled; seen = v.seen }

-- no worker claims a row twice, nor one that isn't there, and it fills only what it claims
abbrev pub IsFit : ℕ → View → Type 0
IsFit n v = Once v.claimed × ((j : ℕ) → Has v.claimed j → j < n) × ((j : ℕ) → Has v.filled j → Has v.claimed j)

module _ {T : Type 0} where
  -- one row
  pub record Row (good : ℕ → T → Type 0) (s : State (Option T) View) (j : ℕ) : Type 0 where
    pub small : slice_index s.words j ≤ 2
    -- nobody claims or has seen a free row, and its slot is at home and empty
    pub free : slice_index s.words j ≡ 0 → (get_elem? s.homes j ≡ some (some None)) × ((id : ℕ) (v : View) → get_elem? s.views id ≡ some v → (Has v.claimed j → ⊥) × (Has v.seen j → ⊥))
    -- one worker claims a taken row
    pub one : (a b : ℕ) (v w : View) → get_elem? s.views a ≡ some v → get_elem? s.views b ≡ some w → Has v.claimed j → Has w.claimed j → a ≡ b
    pub someone : 0 < slice_index s.words j → (id : ℕ) × (v : View) × (get_elem? s.views id ≡ some v) × Has v.claimed j
    -- a filled row is claimed by the same worker, and its word is 2
    pub full : (id : ℕ) (v : View) → get_elem? s.views id ≡ some v → Has v.filled j → Has v.claimed j × (slice_index s.words j ≡ 2)
    -- then its slot is at home with a result, which is one of the job
    pub home : slice_index s.words j ≡ 2 → (x : T) × (get_elem? s.homes j ≡ some (some (Some x)))
    pub right : (x : T) → get_elem? s.homes j ≡ some (some (Some x)) → good j x

  pub record Holds (good : ℕ → T → Type 0) (s : State (Option T) View) : Type 0 where
    pub same : length s.words ≡ length s.homes
    pub rows : (j : ℕ) → j < length s.homes → Row good s j
    pub fit : (id : ℕ) (v : View) → get_elem? s.views id ≡ some v → IsFit (length s.homes) v

  -- a claim: the row, which the worker hasn't filled, is its own, with its empty slot; or it was seen
  abbrev pub claimed : Step (Option T) → Me (Option T) View → ℕ → Me (Option T) View → Type 0
  claimed step me found after =
      ((found ≡ 0) × (Has me.0.filled step.word → ⊥) × (after ≡ (with_claimed me.0 step.word, (step.word, None) ∷ me.1)))
      ⊎ ((0 < found) × (after ≡ (with_seen me.0 step.word, me.1)))

  abbrev pub rest : List (ℕ × Option T) → List (ℕ × Option T)
  rest [] = []
  rest (x ∷ xs) = xs

  -- the result stays in the slot
  abbrev pub filled : Step (Option T) → Me (Option T) View → ℕ → Me (Option T) View → Type 0
  filled step me found after = after ≡ (with_filled me.0 step.word, rest me.1)

  -- the slot is given back as it was
  abbrev pub given_back : Step (Option T) → Me (Option T) View → ℕ → Me (Option T) View → Type 0
  given_back step me found after = after ≡ (me.0, rest me.1)

  -- nothing changes, and the worker's claims are known to be fit
  abbrev pub looks : Step (Option T) → Me (Option T) View → ℕ → Me (Option T) View → Type 0
  looks step me found after = (after ≡ me) × IsFit step.slots me.0
