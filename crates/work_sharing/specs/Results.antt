-- When a worker has done what it claims, and what the rows of a table have in the end.
-- Own.
use Rattle.std.specs.Prelude.{◌≡◌, ◌+◌, ℕ, List, [], ◌∷◌, length, Option, Some, None, slice_get}
use mathlib.Core.Option.{some}
use lib.ListN.{get_elem?}
use Rattle.go_base.specs.Lists.{Has}
use Rattle.work_sharing.specs.declared.rule.View.{View}

-- each row that the worker claims is filled
abbrev pub IsDone : View → Type 0
IsDone v = (j : ℕ) → Has v.claimed j → Has v.filled j

module _ {T : Type 0} where
  -- each result is one of the job of its number
  abbrev pub AreRight : (ℕ → T → Type 0) → List (Option T) → Type 0
  AreRight good xs = (j : ℕ) (x : T) → slice_get xs j ≡ Some (Some x) → good j x

  -- each result is one of the job of its number, and no row is empty that the worker has filled
  abbrev pub AreOf : (ℕ → T → Type 0) → View → List (Option T) → Type 0
  AreOf good v xs = AreRight good xs × ((j : ℕ) → Has v.filled j → slice_get xs j ≡ Some None → ⊥)

  -- what is kept of the slots is what those hold whose word is 2
  abbrev pub AreKept : List ℕ → List (Option T) → List (Option T) → Type 0
  AreKept ws xs kept =
      ((j : ℕ) (x : T) → slice_get kept j ≡ Some (Some x) → (get_elem? ws j ≡ some 2) × (get_elem? xs j ≡ some (Some x)))
      × ((j : ℕ) → slice_get kept j ≡ Some None → get_elem? ws j ≡ some 2 → get_elem? xs j ≡ some None)

  -- how many rows have no result
  abbrev pub empty_rows : List (Option T) → ℕ
  empty_rows [] = 0
  empty_rows (None ∷ xs) = empty_rows xs + 1
  empty_rows (Some x ∷ xs) = empty_rows xs

  -- these are the results of so many jobs
  abbrev pub AreResults : (ℕ → T → Type 0) → ℕ → List T → Type 0
  AreResults good n xs = (length xs ≡ n) × ((j : ℕ) (x : T) → slice_get xs j ≡ Some x → good j x)
