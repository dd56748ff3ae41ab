-- Counts of faults, and contents that are told or not.
-- Own: the edge to files and streams.
use Rattle.std.specs.Prelude.{ℕ, ◌+◌, ◌-◌, ◌^◌, ◌≤◌, min, Option, Some, None}

-- a count rose, or stands at the last value of its type
abbrev pub Rose : ℕ → ℕ → Type 0
Rose before now = min (before + 1) (2 ^ 64 - 1) ≤ now

-- one fault more than a count has, or the last value of its type
abbrev pub one_more : ℕ → ℕ
one_more faults = min (faults + 1) (2 ^ 64 - 1)

-- where something is told, the fact holds of it
abbrev pub Told : {A : Type 0} → Option A → (A → Type 0) → Type 0
Told None P = Unit {0}
Told (Some a) P = P a
