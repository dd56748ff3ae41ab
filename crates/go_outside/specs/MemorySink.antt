-- What a sink in memory is: the bytes taken, its room, and its count of faults.
-- Own: the edge to files and streams.
use Rattle.std.specs.Prelude.{ℕ, ◌+◌, ◌≤◌, nat_le, if◌then◌else◌, List, [], ◌++◌, length}
use Rattle.go_outside.specs.Faults.{one_more}

pub record State : Type 0 where
  pub bytes : List ℕ
  pub capacity : ℕ
  pub faults : ℕ

-- the capacity covers what was taken, and the buffer's room the capacity
pub record IsWithin (taken capacity room : ℕ) : Type 0 where
  pub taken_fits : taken ≤ capacity
  pub capacity_fits : capacity ≤ room

-- nothing was taken, and nothing failed
abbrev pub empty : ℕ → State
empty capacity = record { bytes = []; capacity = capacity; faults = 0 }

-- a piece is taken whole where there is room for it, and else not at all, which is a fault
abbrev pub written : State → List ℕ → State
written s piece = if nat_le (length s.bytes + length piece) s.capacity then record s { bytes = s.bytes ++ piece } else record s { faults = one_more s.faults }
