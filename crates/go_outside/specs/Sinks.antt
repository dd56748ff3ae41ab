-- What a sink has taken, and the cause of its fault.
-- Own: the edge to files and streams.
use Rattle.std.specs.Prelude.{◌≡◌, ◌≤◌, ℕ, Option, Some, None, List, ◌++◌, length, take, Result, Ok, Err}
use Rattle.go_outside.specs.declared.sink.SinkError.{SinkError}
use Rattle.go_outside.specs.Faults.{Rose}

-- the bytes were taken after the old ones, where these are told
abbrev pub Takes : Option (List ℕ) → List ℕ → Option (List ℕ) → Type 0
Takes None bytes new = new ≡ None
Takes (Some old) bytes new = new ≡ Some (old ++ bytes)

-- some prefix of the bytes was taken
abbrev pub TakesSome : Option (List ℕ) → List ℕ → Option (List ℕ) → Type 0
TakesSome old bytes new = (n : ℕ) × (n ≤ length bytes) × Takes old (take n bytes) new

abbrev pub AnswersWrite : Option (List ℕ) → List ℕ → Option (List ℕ) → Result (Unit {0}) SinkError → Type 0
AnswersWrite old bytes new (Ok _) = Takes old bytes new
AnswersWrite old bytes new (Err _) = TakesSome old bytes new

-- a fault comes only where the count rose, and the count never falls
abbrev pub SinkCause : ℕ → ℕ → Result (Unit {0}) SinkError → Type 0
SinkCause before now (Ok _) = before ≤ now
SinkCause before now (Err _) = Rose before now
